-- The problem of a number: White's king near the top, two Black pieces below it, two pieces in
-- Black's hand, and a White piece.
use Rattle.std.specs.Prelude.{◌≡◌, ◌≤◌, ◌+◌, ◌-◌, ◌==◌, ℕ, List, [], ◌∷◌, Some, None, false, true, replicate, slice_set, ◌⊎◌, if◌then◌else◌}
use Rattle.bit_boards.specs.declared.piece.Kind.{Kind}
use Rattle.bit_boards.specs.declared.piece.Kind.TheVariants.{Pawn, Lance, Knight, Silver, Gold, Bishop, Rook, King}
use Rattle.bit_boards.specs.declared.piece.Side.{Side}
use Rattle.bit_boards.specs.declared.piece.Side.TheVariants.{Black, White}
use Rattle.bit_boards.specs.declared.piece.Piece.{Piece}
use Rattle.bit_boards.specs.Square.{square_on}
use Rattle.bit_boards.specs.Kind.{same_kind}
use Rattle.bit_boards.specs.Piece.{plain_piece, is_dead}
use Rattle.board_core.specs.Board.{Board, piece_at, hand_of, with_more, with_cell, with_hand, kings_of, is_king_of, one_if}
use Rattle.shogi_rules.specs.Rules.{AttacksFrom, Attacks, HasPawnOnFile}
use Rattle.problem_gen.specs.Draws.{draw, pick}
use Rattle.problem_gen.specs.declared.drawn.Drawn.{Drawn}

-- 1. WHAT IS DRAWN, in thirteen draws.

-- White's king stands on any file: the first draw.
abbrev pub king_file : ℕ → ℕ
king_file number = 1 + draw number 1 9

-- And on one of the three upper rows: the second draw.
abbrev pub king_row : ℕ → ℕ
king_row number = 1 + draw number 2 3

-- So this is its square.
abbrev pub king_square : ℕ → ℕ
king_square number = square_on (king_file number) (king_row number)

-- A Black piece, by the three draws behind so many: a silver, a lance or a pawn, up to two files
-- beside the king and one to three rows below it.
abbrev pub black_piece : ℕ → ℕ → Drawn
black_piece number before = record {
  kind = pick Silver Lance Pawn (draw number (before + 1) 3);
  side = Black;
  file_and_two = king_file number + draw number (before + 2) 5;
  row = king_row number + 1 + draw number (before + 3) 3;
}

-- What Black holds: a gold, a knight or a rook, by the ninth draw.
abbrev pub first_in_hand : ℕ → Kind
first_in_hand number = pick Gold Knight Rook (draw number 9 3)

-- And a bishop, a silver or a gold, by the tenth.
abbrev pub second_in_hand : ℕ → Kind
second_in_hand number = pick Bishop Silver Gold (draw number 10 3)

-- A White piece, by the last three draws: a gold or a pawn, up to two files beside the king, and up
-- to two rows below it.
abbrev pub white_piece : ℕ → Drawn
white_piece number = record {
  kind = if draw number 11 2 == 0 then Gold else Pawn;
  side = White;
  file_and_two = king_file number + draw number 12 5;
  row = king_row number + draw number 13 3;
}

-- 2. WHERE A PIECE THAT IS DRAWN COMES TO.

-- The piece, unpromoted.
abbrev pub piece_of : Drawn → Piece
piece_of piece = plain_piece piece.kind piece.side

-- The square for which it is drawn, where there is that file.
abbrev pub square_for : Drawn → ℕ
square_for piece = square_on (piece.file_and_two - 2) piece.row

-- The board with the piece on that square.
abbrev pub with_piece : Board → Drawn → Board
with_piece b piece = with_cell b (square_for piece) (Some (piece_of piece))

-- The board with the piece in its owner's hand.
abbrev pub with_held : Board → Side → Kind → Board
with_held b side kind = with_hand b side (with_more (hand_of b side) kind)

-- The piece may stand on its square: there is such a file and nothing stands there, it could move
-- from there, it is no second unpromoted pawn of its side on the file, and, if it is Black's, it
-- doesn't attack White's king from there.
pub record MayStand (b : Board) (king : ℕ) (piece : Drawn) : Type 0 where
  pub file_from : 3 ≤ piece.file_and_two
  pub file_to : piece.file_and_two ≤ 11
  pub free : piece_at b.cells (square_for piece) ≡ None
  pub alive : is_dead (square_for piece) (Some (piece_of piece)) ≡ false
  pub pawn : piece.kind ≡ Pawn → ¬ HasPawnOnFile b.cells piece.side (square_for piece)
  pub safe : piece.side ≡ Black → ¬ AttacksFrom (with_piece b piece).cells Black (square_for piece) king

-- The one board comes from the other by the piece: it stands where it may, else it is in its
-- owner's hand; the rest stays.
abbrev pub IsPut : Board → ℕ → Drawn → Board → Type 0
IsPut b king piece c = (MayStand b king piece × (c ≡ with_piece b piece)) ⊎ (¬ MayStand b king piece × (c ≡ with_held b piece.side piece.kind))

-- 3. THE PROBLEM OF A NUMBER.

-- White's king alone on the square, Black to move.
unfoldable pub king_alone : ℕ → Board
king_alone square = record {
  cells = slice_set (replicate 81 None) square (Some (plain_piece King White));
  black = replicate 7 0;
  white = replicate 7 0;
  side = Black;
}

-- The board of a number: White's king, one Black piece and then another, what Black holds, and last
-- the White piece, each put on the board as it stands by then. Black is to move.
pub record IsGenerated (number : ℕ) (b : Board) : Type 0 where
  pub one : Board
  pub two : Board
  pub first : IsPut (king_alone (king_square number)) (king_square number) (black_piece number 2) one
  pub second : IsPut one (king_square number) (black_piece number 5) two
  pub last : IsPut (with_held (with_held two Black (first_in_hand number)) Black (second_in_hand number)) (king_square number) (white_piece number) b

-- The kinds of all pieces that a number draws: the king's, of the two Black pieces, of the two that
-- Black holds, and of White's.
abbrev pub kinds_of : ℕ → List Kind
kinds_of number = King ∷ (black_piece number 2).kind ∷ (black_piece number 5).kind ∷ first_in_hand number ∷ second_in_hand number
    ∷ (white_piece number).kind ∷ []

-- How many of the kinds are this one.
abbrev pub count_among : List Kind → Kind → ℕ
count_among [] k = 0
count_among (j ∷ others) k = one_if (same_kind j k) + count_among others k

-- While pieces are put: Black is to move, White's king stands on its square and is the only king,
-- and no Black piece attacks it.
pub record IsUnderWay (king : ℕ) (b : Board) : Type 0 where
  pub turn : b.side ≡ Black
  pub there : is_king_of White (piece_at b.cells king) ≡ true
  pub only : (square : ℕ) → is_king_of White (piece_at b.cells square) ≡ true → square ≡ king
  pub defender : kings_of b White ≡ 1
  pub attacker : kings_of b Black ≡ 0
  pub safe : ¬ Attacks b.cells Black king
