-- What is added to a list of moves.
use Rattle.std.specs.Prelude.{◌≡◌, ◌⊎◌, List, Bool, true, false, Contains}
use Rattle.bit_boards.specs.declared.piece.Kind.{Kind}
use Rattle.bit_boards.specs.declared.square.Square.{Square}
use Rattle.bit_boards.specs.declared.mask.Mask.{Mask}
use Rattle.bit_boards.specs.Mask.{Holds}
use Rattle.board_core.specs.declared.moves.Move.{Move}
use Rattle.board_core.specs.declared.moves.Move.TheVariants as moves

-- The move goes from the square, unpromoted to a square of the first set, or promoted to one of the
-- second.
abbrev pub GoesFrom : Square → Mask → Mask → Move → Type 0
GoesFrom from plain promoted (moves.Board origin to false) = (origin ≡ from) × Holds plain to.number
GoesFrom from plain promoted (moves.Board origin to true) = (origin ≡ from) × Holds promoted to.number
GoesFrom from plain promoted (moves.Drop dropped to) = ⊥

-- The move drops a piece of the kind on a square of the set.
abbrev pub IsDropOn : Kind → Mask → Move → Type 0
IsDropOn wanted squares (moves.Board from to promote) = ⊥
IsDropOn wanted squares (moves.Drop dropped to) = (dropped ≡ wanted) × Holds squares to.number

-- The move is this one, and it is wanted.
abbrev pub IsOne : Bool → Move → Move → Type 0
IsOne wanted by move = (wanted ≡ true) × (move ≡ by)

-- The new list has the moves of the old one, those with the property, and no other.
pub record Adds (P : Move → Type 0) (old new : List Move) : Type 0 where
  pub kept : (move : Move) → Contains old move → Contains new move
  pub added : (move : Move) → P move → Contains new move
  pub sound : (move : Move) → Contains new move → Contains old move ⊎ P move
