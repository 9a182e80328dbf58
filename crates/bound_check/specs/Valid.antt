-- When a bound is valid for a position and a number of moves, and what it then shows.
use Rattle.std.specs.Prelude.{◌≡◌, ◌<◌, ◌≤◌, ◌-◌, ℕ, List, Contains}
use Rattle.bit_boards.specs.declared.piece.Side.{Side}
use Rattle.board_core.specs.declared.moves.Move.{Move}
use Rattle.board_core.specs.Board.{Board}
use Rattle.shogi_rules.specs.Tsume.{IsCheck}
use Rattle.mate_def.specs.Mate.{RankAtMost, HasEvasionTo}
use Rattle.bound_text.specs.declared.entry.BoundEntry.{BoundEntry}

-- The position is listed with this number or a greater one.
pub record IsListedFrom (entries : List BoundEntry) (least : ℕ) (position : Board) : Type 0 where
  pub entry : BoundEntry
  pub listed : Contains entries entry
  pub same : entry.at ≡ position
  pub enough : least ≤ entry.bound.number

-- An evasion that leads to the position keeps a number of moves: for 1 any does; above 1 the
-- position is listed with one less, or with more.
abbrev pub Keeps : List BoundEntry → ℕ → Board → Type 0
Keeps entries number position = 1 < number → IsListedFrom entries (number - 1) position

-- An entry is held: each check of its position has an evasion that keeps its number.
abbrev pub IsHeld : List BoundEntry → Side → BoundEntry → Type 0
IsHeld entries attacker entry = (check : Move) → IsCheck attacker entry.at check
    → HasEvasionTo attacker (Keeps entries entry.bound.number) entry.at check

-- The entries of a bound are valid for a position and a number of moves: the number is 0, or the
-- position is listed with it or a greater one; and every entry is held, also one that nothing
-- needs.
pub record IsValidBound (entries : List BoundEntry) (p : Board) (within : ℕ) : Type 0 where
  pub root : 0 < within → IsListedFrom entries within p
  pub held : (entry : BoundEntry) → Contains entries entry → IsHeld entries p.side entry

-- What a valid bound shows: its position is no mate within the number of moves, and no listed
-- position is one within its own number.
pub record ShowsBound (entries : List BoundEntry) (p : Board) (within : ℕ) : Type 0 where
  pub no_mate : ¬ RankAtMost p.side within p
  pub none_listed : (entry : BoundEntry) → Contains entries entry → ¬ RankAtMost p.side entry.bound.number entry.at
