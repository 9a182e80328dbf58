-- What a mate and an escape are. The attacker only gives check, the defender makes any legal move,
-- and play without end is no mate.
use Rattle.std.specs.Prelude.{◌≡◌, ◌⊎◌, ◌≤◌, ℕ, zero, suc, List, [], ◌∷◌, Contains}
use Rattle.bit_boards.specs.declared.piece.Side.{Side}
use Rattle.board_core.specs.declared.moves.Move.{Move}
use Rattle.board_core.specs.Board.{Board}
use Rattle.shogi_rules.specs.Rules.{after}
use Rattle.shogi_rules.specs.Tsume.{IsCheck, IsEvasion}

-- The position after a check and an evasion to it.
abbrev pub after_both : Board → Move → Move → Board
after_both b check evasion = after (after b check) evasion

-- The position is mate within a number of the attacker's moves: never within 0; within n + 1 where
-- there is a check after which every evasion leads to a position that is mate within n. So a rank
-- is a finite strategy of checks against every legal defence: a check without an evasion is mate
-- within 1. (Where the defender is to move there is no check, so no rank.)
abbrev pub RankAtMost : Side → ℕ → Board → Type 0
RankAtMost attacker zero b = ⊥
RankAtMost attacker (suc n) b =
    (check : Move) × IsCheck attacker b check
    × ((evasion : Move) → IsEvasion attacker (after b check) evasion → RankAtMost attacker n (after_both b check evasion))

-- The position is a mate: within some number of moves.
abbrev pub IsMate : Side → Board → Type 0
IsMate attacker b = (n : ℕ) × RankAtMost attacker n b

-- The check has an evasion that leads to a position with the property.
pub record HasEvasionTo (attacker : Side) (P : Board → Type 0) (b : Board) (check : Move) : Type 0 where
  pub evasion : Move
  pub is_evasion : IsEvasion attacker (after b check) evasion
  pub leads : P (after_both b check evasion)

-- The positions of s are closed, but for those of t: at each position of s the attacker is to move,
-- and each check from it has an evasion that leads to a position of s or of t.
pub record IsClosed (attacker : Side) (s t : List Board) : Type 0 where
  pub turn : (b : Board) → Contains s b → b.side ≡ attacker
  pub answered : (b : Board) (check : Move) → Contains s b → IsCheck attacker b check
      → HasEvasionTo attacker (λ q. Contains s q ⊎ Contains t q) b check

-- The position is one of some closed positions, but for those of t: from it the defender escapes,
-- or gets to one of t by checks and evasions.
abbrev pub EscapesInto : Side → Board → List Board → Type 0
EscapesInto attacker b t = (s : List Board) × Contains s b × IsClosed attacker s t

-- The defender escapes: the position is one of some closed positions.
abbrev pub Escapes : Side → Board → Type 0
Escapes attacker b = EscapesInto attacker b []

-- The defender has an evasion that leads to a position with the property.
pub record CanEvadeTo (attacker : Side) (P : Board → Type 0) (b : Board) : Type 0 where
  pub evasion : Move
  pub is_evasion : IsEvasion attacker b evasion
  pub leads : P (after b evasion)

-- Every evasion leads to a position that is mate within a number of the attacker's moves.
abbrev pub IsMatedWithin : Side → ℕ → Board → Type 0
IsMatedWithin attacker n b = (evasion : Move) → IsEvasion attacker b evasion → RankAtMost attacker n (after b evasion)

-- A law: who escapes into some positions escapes into any that hold them.
abbrev pub EscapesIntoMore : Type 0
EscapesIntoMore = (attacker : Side) (b : Board) (t u : List Board) → ((q : Board) → Contains t q → Contains u q)
    → EscapesInto attacker b t → EscapesInto attacker b u

-- A law: a position may be dropped from those that it escapes into, since who is back at it goes on
-- from it as before.
abbrev pub EscapesPastItself : Type 0
EscapesPastItself = (attacker : Side) (b : Board) (t : List Board) → EscapesInto attacker b (b ∷ t) → EscapesInto attacker b t

-- A law: what the checks of a position lead to is joined. The attacker is to move, the list has all
-- his checks, and each of it has an evasion that leads to the position itself, to one of t, or to
-- one that escapes into these; then the position escapes into t.
abbrev pub EscapesJoined : Type 0
EscapesJoined = (attacker : Side) (b : Board) (checks : List Move) (t : List Board) → b.side ≡ attacker
    → ((check : Move) → IsCheck attacker b check → Contains checks check)
    → ((check : Move) → Contains checks check → HasEvasionTo attacker (λ q. Contains (b ∷ t) q ⊎ EscapesInto attacker q (b ∷ t)) b check)
    → EscapesInto attacker b t

-- A law: an escape is no mate.
abbrev pub EscapeIsNoMate : Type 0
EscapeIsNoMate = (attacker : Side) (b : Board) → Escapes attacker b → ¬ IsMate attacker b

-- A law: a mate within n is a mate within any number that isn't less.
abbrev pub RankGrows : Type 0
RankGrows = (attacker : Side) (n m : ℕ) (b : Board) → n ≤ m → RankAtMost attacker n b → RankAtMost attacker m b

-- The position has a check without an evasion.
pub record MateInOne (attacker : Side) (b : Board) : Type 0 where
  pub check : Move
  pub is_check : IsCheck attacker b check
  pub no_evasion : (evasion : Move) → ¬ IsEvasion attacker (after b check) evasion

-- A law: a position is mate within one move exactly where it has a check without an evasion.
abbrev pub RankOne : Type 0
RankOne = (attacker : Side) (b : Board) → (MateInOne attacker b → RankAtMost attacker 1 b) × (RankAtMost attacker 1 b → MateInOne attacker b)
