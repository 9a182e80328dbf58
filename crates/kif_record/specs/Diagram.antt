-- The diagram of a position as a KIF record has it: hands, board, and whose turn it is.
use Rattle.std.specs.Prelude.{ℕ, List, [], ◌∷◌, ◌++◌, Option, Some, None}
use Rattle.std.specs.List.{flat_map, range_with_len}
use Rattle.bit_boards.specs.declared.piece.Kind.{Kind}
use Rattle.bit_boards.specs.declared.piece.Kind.TheVariants.{Pawn, Lance, Knight, Silver, Gold, Bishop, Rook}
use Rattle.bit_boards.specs.declared.piece.Side.{Side}
use Rattle.bit_boards.specs.declared.piece.Side.TheVariants.{Black, White}
use Rattle.bit_boards.specs.declared.piece.Piece.{Piece}
use Rattle.board_core.specs.Board.{Board, hand_count}
use Rattle.sfen_text.specs.Spelling.{cells_of_row}
use Rattle.kif_text.specs.Lines.{utf8}
use Rattle.kif_record.specs.Characters.{held_text, mark_of, number_text, sign_of, wide_blank}

-- A line, with its line feed.
abbrev pub line : List ℕ → List ℕ
line text = text ++ 10 ∷ []

-- What stands there already, with a wide blank behind it where anything does.
abbrev pub with_blank : List ℕ → List ℕ
with_blank [] = []
with_blank (byte ∷ before) = (byte ∷ before) ++ wide_blank

-- An item of a hand behind what stands there already: a wide blank between the two.
abbrev pub joined : List ℕ → List ℕ → List ℕ
joined before [] = before
joined before (byte ∷ item) = with_blank before ++ byte ∷ item

-- What a hand holds of some kinds, behind what stands there already.
abbrev pub with_kinds : List ℕ → List ℕ → List Kind → List ℕ
with_kinds hand before [] = before
with_kinds hand before (kind ∷ kinds) = with_kinds hand (joined before (held_text kind (hand_count hand kind))) kinds

-- A word in place of nothing.
abbrev pub or_none : List ℕ → List ℕ
or_none [] = utf8 "なし"
or_none (byte ∷ text) = byte ∷ text

-- A hand, in the order rook, bishop, gold, silver, knight, lance, pawn.
unfoldable pub hand_text : List ℕ → List ℕ
hand_text hand = or_none (with_kinds hand [] (Rook ∷ Bishop ∷ Gold ∷ Silver ∷ Knight ∷ Lance ∷ Pawn ∷ []))

-- A cell: a mark and a character.
abbrev pub cell_text : Option Piece → List ℕ
cell_text None = utf8 " ・"
cell_text (Some piece) = mark_of piece.side ++ sign_of piece

-- A row of the board, from file 9 to file 1, between bars; its number behind it.
abbrev pub row_text : List (Option Piece) → ℕ → List ℕ
row_text cells row_number = utf8 "|" ++ flat_map cell_text (cells_of_row cells row_number) ++ utf8 "|" ++ number_text row_number

-- The line that says that White is to move; where Black is, nothing says so.
abbrev pub turn_text : Side → List ℕ
turn_text Black = []
turn_text White = line (utf8 "後手番")

-- The nine rows, a first.
unfoldable pub rows_text : List (Option Piece) → List ℕ
rows_text cells = flat_map (λ row_number. line (row_text cells row_number)) (range_with_len 1 9)

-- The board: the numbers of the files, and the rows in a frame.
unfoldable pub board_text : List (Option Piece) → List ℕ
board_text cells =
    line (utf8 "  ９ ８ ７ ６ ５ ４ ３ ２ １") ++ line (utf8 "+---------------------------+") ++ rows_text cells
    ++ line (utf8 "+---------------------------+")

-- The diagram: White's hand, the board, Black's hand, and whose turn it is.
unfoldable pub diagram_text : Board → List ℕ
diagram_text b =
    line (utf8 "後手の持駒：" ++ hand_text b.white) ++ board_text b.cells
    ++ line (utf8 "先手の持駒：" ++ hand_text b.black) ++ turn_text b.side
