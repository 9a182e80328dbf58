-- The one text that is written for each position (SFEN, without a move number).
use Rattle.std.specs.Prelude.{◌+◌, ◌/◌, ◌%◌, ◌==◌, ℕ, zero, suc, List, [], ◌∷◌, ◌++◌, Option, Some, None, nat_lt, if◌then◌else◌}
use Rattle.std.specs.List.{flat_map, range_with_len}
use Rattle.bit_boards.specs.declared.piece.Kind.{Kind}
use Rattle.bit_boards.specs.declared.piece.Kind.TheVariants.{Pawn, Lance, Knight, Silver, Gold, Bishop, Rook}
use Rattle.bit_boards.specs.declared.piece.Side.{Side}
use Rattle.bit_boards.specs.declared.piece.Side.TheVariants.{Black, White}
use Rattle.bit_boards.specs.declared.piece.Piece.{Piece}
use Rattle.bit_boards.specs.Square.{square_on}
use Rattle.board_core.specs.Board.{Board, piece_at, hand_count}
use Rattle.sfen_text.specs.Pieces.{letter_of, piece_text}

-- What stands on a row, from a file down to file 1.
abbrev pub row_from : List (Option Piece) → ℕ → ℕ → List (Option Piece)
row_from cells row_number zero = []
row_from cells row_number (suc file) = piece_at cells (square_on (suc file) row_number) ∷ row_from cells row_number file

-- What stands on a row, from file 9 to file 1.
unfoldable pub cells_of_row : List (Option Piece) → ℕ → List (Option Piece)
cells_of_row cells row_number = row_from cells row_number 9

-- A run of empty squares: its length as a digit, or nothing.
abbrev pub run_text : ℕ → List ℕ
run_text zero = []
run_text (suc n) = (48 + suc n) ∷ []

-- A row behind a run of empty squares: each run is as long as it can be.
abbrev pub row_text : ℕ → List (Option Piece) → List ℕ
row_text run [] = run_text run
row_text run (None ∷ row) = row_text (run + 1) row
row_text run (Some piece ∷ row) = run_text run ++ piece_text piece ++ row_text 0 row

-- A slash and the row of a row.
abbrev pub slashed_row : List (Option Piece) → ℕ → List ℕ
slashed_row cells row_number = 47 ∷ row_text 0 (cells_of_row cells row_number)

-- The board: the row of row a, and behind a slash each the rows of the rows b to i.
abbrev pub board_text : List (Option Piece) → List ℕ
board_text cells = row_text 0 (cells_of_row cells 1) ++ flat_map (slashed_row cells) (range_with_len 2 8)

-- The side to move.
abbrev pub side_letter : Side → ℕ
side_letter Black = 98
side_letter White = 119

-- A count before a letter: nothing for 1, one digit up to 9, two digits from 10 on.
abbrev pub count_text : ℕ → List ℕ
count_text n = if n == 1 then [] else (if nat_lt n 10 then (48 + n) ∷ [] else (48 + n / 10) ∷ (48 + n % 10) ∷ [])

-- What a side holds of a kind: nothing, or a count and the letter.
abbrev pub held_text : Side → Kind → ℕ → List ℕ
held_text side k zero = []
held_text side k (suc n) = count_text (suc n) ++ letter_of side k ∷ []

-- A side's hand, in the order rook, bishop, gold, silver, knight, lance, pawn.
abbrev pub hand_text : Side → List ℕ → List ℕ
hand_text side hand = flat_map (λ kind. held_text side kind (hand_count hand kind)) (Rook ∷ Bishop ∷ Gold ∷ Silver ∷ Knight ∷ Lance ∷ Pawn ∷ [])

-- A dash in place of nothing.
abbrev pub or_dash : List ℕ → List ℕ
or_dash [] = 45 ∷ []
or_dash (byte ∷ text) = byte ∷ text

-- The hands: Black's, then White's; a dash where both are empty.
abbrev pub hands_text : List ℕ → List ℕ → List ℕ
hands_text black white = or_dash (hand_text Black black ++ hand_text White white)

-- The text of a position: the board, the side to move and the hands, a space between.
unfoldable pub sfen_of : Board → List ℕ
sfen_of b = board_text b.cells ++ 32 ∷ side_letter b.side ∷ 32 ∷ hands_text b.black b.white
