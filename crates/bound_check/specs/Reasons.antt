-- Why a bound is refused: what may be wrong with it, and which of several reasons is named.
use Rattle.std.specs.Prelude.{◌≡◌, ◌<◌, ◌⊎◌, ℕ, zero, suc, List, Option, Some, None, slice_get, IsSomeAnd}
use Rattle.bit_boards.specs.declared.piece.Side.{Side}
use Rattle.board_core.specs.declared.moves.Move.{Move}
use Rattle.board_core.specs.Board.{Board}
use Rattle.board_core.specs.Order.{order_of}
use Rattle.shogi_rules.specs.Tsume.{IsCheck}
use Rattle.mate_def.specs.Mate.{HasEvasionTo}
use Rattle.bound_text.specs.declared.entry.BoundEntry.{BoundEntry}
use Rattle.bound_check.specs.Valid.{IsListedFrom, Keeps, IsHeld, IsValidBound}
use Rattle.bound_check.specs.declared.verdict.BoundVerdict.{BoundVerdict}
use Rattle.bound_check.specs.declared.verdict.BoundVerdict.TheVariants.{Accepted, Refused}

-- The position isn't listed as the number of moves asks: with it or a greater one, where it is
-- above 0.
pub record IsRootMissing (entries : List BoundEntry) (p : Board) (within : ℕ) : Type 0 where
  pub some : 0 < within
  pub missing : ¬ IsListedFrom entries within p

-- The move is a check of the entry's position, and no evasion to it keeps the entry's number.
pub record IsUnkept (entries : List BoundEntry) (attacker : Side) (entry : BoundEntry) (check : Move) : Type 0 where
  pub is_check : IsCheck attacker entry.at check
  pub unkept : ¬ HasEvasionTo attacker (Keeps entries entry.bound.number) entry.at check

-- A reason against a bound at a number: at 0, which names no check, the position isn't listed as it
-- has to be; from 1 on, at the entry with that number, this check of its position has no evasion
-- that keeps its number.
abbrev pub HasReason : List BoundEntry → Board → ℕ → ℕ → Option Move → Type 0
HasReason entries p within zero None = IsRootMissing entries p within
HasReason entries p within zero (Some check) = ⊥
HasReason entries p within (suc place) None = ⊥
HasReason entries p within (suc place) (Some check) = IsSomeAnd (slice_get entries place) (λ entry. IsUnkept entries p.side entry check)

-- Where a reason stands among those of one entry: at its check's place in the order of moves.
abbrev pub reason_place : Option Move → ℕ
reason_place None = 0
reason_place (Some check) = order_of check

-- The one reason is named before the other: it is at a smaller number, or at the same one with a
-- check that comes sooner.
abbrev pub IsSooner : ℕ → Option Move → ℕ → Option Move → Type 0
IsSooner entry check later_entry later_check =
    (entry < later_entry) ⊎ ((entry ≡ later_entry) × (reason_place check < reason_place later_check))

-- The reason speaks against the bound, and none that is named before it does.
pub record IsFirstAgainst (entries : List BoundEntry) (p : Board) (within entry : ℕ) (check : Option Move) : Type 0 where
  pub reason : HasReason entries p within entry check
  pub first : (sooner_entry : ℕ) (sooner : Option Move) → IsSooner sooner_entry sooner entry check
      → ¬ HasReason entries p within sooner_entry sooner

-- The verdict on a bound: accepted where it is valid, refused with the first reason against it.
abbrev pub IsVerdict : List BoundEntry → Board → ℕ → BoundVerdict → Type 0
IsVerdict entries p within Accepted = IsValidBound entries p within
IsVerdict entries p within (Refused entry check) = IsFirstAgainst entries p within entry check

-- The finding about one entry: that it is held; or the first check of its position to which no
-- evasion keeps its number.
abbrev pub IsFirstUnkept : List BoundEntry → Side → BoundEntry → Option Move → Type 0
IsFirstUnkept entries attacker entry None = IsHeld entries attacker entry
IsFirstUnkept entries attacker entry (Some check) = IsUnkept entries attacker entry check
    × ((sooner : Move) → order_of sooner < order_of check → ¬ IsUnkept entries attacker entry sooner)
