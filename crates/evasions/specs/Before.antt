-- What the list of evasions is made of and counted from, a stretch of the order of moves at a time:
-- it serves private functions alone.
use Rattle.std.specs.Prelude.{◌≡◌, ◌<◌, ◌↔◌, ℕ, List, length}
use Rattle.bit_boards.specs.declared.piece.Kind.{Kind}
use Rattle.bit_boards.specs.declared.piece.Side.{Side}
use Rattle.bit_boards.specs.declared.square.Square.{Square}
use Rattle.bit_boards.specs.declared.mask.Mask.{Mask}
use Rattle.bit_boards.specs.Kind.{other, place_of}
use Rattle.bit_boards.specs.Mask.{Holds}
use Rattle.board_core.specs.declared.moves.Move.{Move}
use Rattle.board_core.specs.declared.moves.Move.TheVariants as moves
use Rattle.board_core.specs.Board.{Board}
use Rattle.board_core.specs.Order.{order_of, Lists}
use Rattle.shogi_rules.specs.Tsume.{IsEvasion}

-- The move is an evasion, and comes before a place in the order.
abbrev pub IsEvasionBefore : Side → Board → ℕ → Move → Type 0
IsEvasionBefore attacker b place move = IsEvasion attacker b move × (order_of move < place)

-- So many evasions of the side to move come before a place in the order.
pub record AreEvasionsBefore (b : Board) (place many : ℕ) : Type 0 where
  pub moves : List Move
  pub lists : Lists (IsEvasionBefore (other b.side) b place) moves
  pub long : length moves ≡ many

-- The drop of a piece of some kind on the square is an evasion, and the kind comes before a place
-- in the order of kinds.
pub record IsDropSquare (b : Board) (place : ℕ) (to : Square) : Type 0 where
  pub dropped : Kind
  pub evades : IsEvasion (other b.side) b (moves.Drop dropped to)
  pub early : place_of dropped < place

-- The set has exactly the squares on which the drop of a piece of one of the first kinds, up to a
-- place in their order, is an evasion.
abbrev pub AreDropSquares : Board → ℕ → Mask → Type 0
AreDropSquares b place squares = (to : Square) → Holds squares to.number ↔ IsDropSquare b place to
