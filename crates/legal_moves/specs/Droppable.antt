-- What private functions keep of squares on which a piece is dropped: it serves them alone.
use Rattle.std.specs.Prelude.{◌≡◌, ◌<◌, ℕ, Some, None, false, true}
use Rattle.bit_boards.specs.declared.piece.Kind.{Kind}
use Rattle.bit_boards.specs.declared.piece.Kind.TheVariants.{Pawn}
use Rattle.bit_boards.specs.Kind.{other}
use Rattle.bit_boards.specs.Piece.{is_dead, plain_piece}
use Rattle.board_core.specs.Board.{Board, piece_at, hand_count, hand_of, is_king_of}
use Rattle.shogi_rules.specs.Rules.{IsInCheck, HasPawnOnFile, after_drop}

-- What a drop has against which nothing speaks but perhaps what it means for the kings: the square
-- is empty, the piece is in hand and could move from there, and it is no second pawn on the file.
pub record MayDrop (b : Board) (kind : Kind) (to : ℕ) : Type 0 where
  pub empty : piece_at b.cells to ≡ None
  pub in_hand : 0 < hand_count (hand_of b b.side) kind
  pub alive : is_dead to (Some (plain_piece kind b.side)) ≡ false
  pub pawn : ¬ ((kind ≡ Pawn) × HasPawnOnFile b.cells b.side to)

-- The square is empty, the piece could move from there, and the mover's king isn't attacked once it
-- stands there.
pub record IsFreeFor (b : Board) (kind : Kind) (to : ℕ) : Type 0 where
  pub on_board : to < 81
  pub empty : piece_at b.cells to ≡ None
  pub alive : is_dead to (Some (plain_piece kind b.side)) ≡ false
  pub safe : ¬ IsInCheck (after_drop b kind to).cells b.side

-- The one king of the side that isn't to move stands there.
pub record IsEnemyKing (b : Board) (king : ℕ) : Type 0 where
  pub here : is_king_of (other b.side) (piece_at b.cells king) ≡ true
  pub only : (square : ℕ) → is_king_of (other b.side) (piece_at b.cells square) ≡ true → square ≡ king
