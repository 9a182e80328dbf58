-- Where the positions of one board and side stand in a list, and between which keys theirs lie.
use Rattle.std.specs.Prelude.{◌≡◌, ◌+◌, ◌-◌, ◌*◌, ◌^◌, ℕ, List, Some, Contains, slice_get, slice_set}
use Rattle.std.specs.List.Sorted.{IsStrictlyIncreasing}
use Rattle.bit_boards.specs.declared.piece.Side.{Side}
use Rattle.board_core.specs.declared.keys.Key.{Key}
use Rattle.board_core.specs.Board.{Board}
use Rattle.board_core.specs.Key.{side_bit, key_of}

-- Two positions have the same cells and the same side to move: they differ in their hands alone, if
-- at all.
abbrev pub IsOnBoardOf : Board → Board → Type 0
IsOnBoardOf position other = (other.cells ≡ position.cells) × (other.side ≡ position.side)

-- A position with the same cells and side to move stands at the place.
pub record StandsOnBoard (positions : List Board) (position : Board) (place : ℕ) : Type 0 where
  pub other : Board
  pub there : slice_get positions place ≡ Some other
  pub same : IsOnBoardOf position other

-- The places are those at which the positions with a position's cells and side to move stand in the
-- list, each once, in rising order.
pub record ArePlacesOnBoard (positions : List Board) (position : Board) (places : List ℕ) : Type 0 where
  pub right : (place : ℕ) → Contains places place → StandsOnBoard positions position place
  pub all : (place : ℕ) → StandsOnBoard positions position place → Contains places place
  pub rising : IsStrictlyIncreasing places

-- The last word of a key of which the hands are empty.
abbrev pub least_hands : Side → ℕ
least_hands side = 2 ^ 42 * side_bit side

-- The keys are the least and the greatest of what may be keys of positions with a position's cells
-- and side to move: no bit of the hands is set, or all are.
pub record AreBoardKeys (position : Board) (least greatest : Key) : Type 0 where
  pub least_is : least.0 ≡ slice_set (key_of position) 7 (least_hands position.side)
  pub greatest_is : greatest.0 ≡ slice_set (key_of position) 7 (least_hands position.side + (2 ^ 42 - 1))
