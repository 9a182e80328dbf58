use Rattle.std.specs.Prelude.{◌≡◌, ◌≢◌, ◌≤◌, ◌<◌, ℕ, List, Option, true, false, length}
use Rattle.bit_boards.specs.declared.piece.Piece.{Piece}
use Rattle.bit_boards.specs.declared.piece.Kind.{Kind}
use Rattle.bit_boards.specs.declared.piece.Kind.TheVariants.{King}
use Rattle.bit_boards.specs.declared.piece.Side.{Side}
use Rattle.bit_boards.specs.Square.{file_of}
use Rattle.bit_boards.specs.Kind.{total_of}
use Rattle.bit_boards.specs.Piece.{is_dead}
use Rattle.board_core.specs.Board.{Board, piece_at, is_pawn_of, count_of, kings_of}

-- Two unpromoted pawns of the side stand on the file.
pub record TwoPawnsOn (cells : List (Option Piece)) (side : Side) (file : ℕ) : Type 0 where
  pub one : ℕ
  pub two : ℕ
  pub apart : one < two
  pub on_board : two < 81
  pub file_one : file_of one ≡ file
  pub file_two : file_of two ≡ file
  pub pawn_one : is_pawn_of side (piece_at cells one) ≡ true
  pub pawn_two : is_pawn_of side (piece_at cells two) ≡ true

-- What every position keeps: 81 cells, the seven totals, at most one king a side, no piece that
-- could never move again, and no two unpromoted pawns of a side on a file.
pub record IsKept (b : Board) : Type 0 where
  pub cells : length b.cells ≡ 81
  pub black : length b.black ≡ 7
  pub white : length b.white ≡ 7
  pub totals : (kind : Kind) → kind ≢ King → count_of b kind ≤ total_of kind
  pub kings : (side : Side) → kings_of b side ≤ 1
  pub alive : (square : ℕ) → square < 81 → is_dead square (piece_at b.cells square) ≡ false
  pub pawns : (side : Side) (file : ℕ) → TwoPawnsOn b.cells side file → ⊥
