-- When a position dominates another, and what carries over then.
use Rattle.std.specs.Prelude.{◌≡◌, ◌≤◌, ℕ}
use Rattle.bit_boards.specs.declared.piece.Kind.{Kind}
use Rattle.bit_boards.specs.declared.piece.Side.{Side}
use Rattle.bit_boards.specs.Kind.{other}
use Rattle.board_core.specs.declared.moves.Move.{Move}
use Rattle.board_core.specs.Board.{Board, hand_count, hand_of}
use Rattle.board_core.specs.Kept.{IsKept}
use Rattle.shogi_rules.specs.Rules.{after}
use Rattle.shogi_rules.specs.Tsume.{IsEvasion}
use Rattle.mate_def.specs.Mate.{RankAtMost, IsMatedWithin, Escapes, CanEvadeTo}

-- The one position dominates the other, for this attacker: the same board, the same side to move,
-- and, kind by kind, the attacker has at least as many in hand as in the other, the defender at
-- most as many.
pub record Dominates (attacker : Side) (over under : Board) : Type 0 where
  pub cells : over.cells ≡ under.cells
  pub turn : over.side ≡ under.side
  pub more : (kind : Kind) → hand_count (hand_of under attacker) kind ≤ hand_count (hand_of over attacker) kind
  pub less : (kind : Kind) → hand_count (hand_of over (other attacker)) kind ≤ hand_count (hand_of under (other attacker)) kind

-- P carries up: where one position dominates another, and both keep what every position keeps, P of
-- the other gives P of the one.
abbrev pub CarriesUp : (Side → Board → Type 0) → Type 0
CarriesUp P = (attacker : Side) (over under : Board) → IsKept over → IsKept under → Dominates attacker over under → P attacker under → P attacker over

-- P carries down: where one position dominates another, and both keep what every position keeps, P
-- of the one gives P of the other.
abbrev pub CarriesDown : (Side → Board → Type 0) → Type 0
CarriesDown P = (attacker : Side) (over under : Board) → IsKept over → IsKept under → Dominates attacker over under → P attacker over → P attacker under

-- A law: each position dominates itself.
abbrev pub EachDominatesItself : Type 0
EachDominatesItself = (attacker : Side) (b : Board) → Dominates attacker b b

-- A law: what dominates a position dominates each that this one dominates.
abbrev pub DominanceGoesOn : Type 0
DominanceGoesOn = (attacker : Side) (over between under : Board) → Dominates attacker over between → Dominates attacker between under → Dominates attacker over under

-- A law: where one position dominates another, and both keep what every position keeps, an evasion
-- from the one is an evasion from the other, and what it leads to from the one dominates what it
-- leads to from the other.
abbrev pub EvasionsServeBelow : Type 0
EvasionsServeBelow = (attacker : Side) (over under : Board) (evasion : Move) → IsKept over → IsKept under → Dominates attacker over under
    → IsEvasion attacker over evasion → IsEvasion attacker under evasion × Dominates attacker (after over evasion) (after under evasion)

-- A law: a mate within a number of moves carries up.
abbrev pub MatesCarryUp : Type 0
MatesCarryUp = (n : ℕ) → CarriesUp (λ attacker b. RankAtMost attacker n b)

-- A law: that every evasion leads to a mate within a number of moves carries up.
abbrev pub MatedCarryUp : Type 0
MatedCarryUp = (n : ℕ) → CarriesUp (λ attacker b. IsMatedWithin attacker n b)

-- A law: an escape carries down.
abbrev pub EscapesCarryDown : Type 0
EscapesCarryDown = CarriesDown (λ attacker b. Escapes attacker b)

-- A law: that an evasion leads to an escape carries down.
abbrev pub EvasionsCarryDown : Type 0
EvasionsCarryDown = CarriesDown (λ attacker b. CanEvadeTo attacker (Escapes attacker) b)
