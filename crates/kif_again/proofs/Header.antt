-- The lines of a diagram, and what each says.
use Rattle.std.proofs.Common.{◌≡◌, ◌≤◌, ◌++◌, ℕ, Bool, true, false, List, [], ◌∷◌, length, Option, Some, None, refl, sym, subst, ap, ◌∙◌, arith, append_assoc, chars}
use Rattle.std.specs.List.{flat_map, take_while}
use Rattle.bit_boards.specs.declared.piece.Piece.{Piece}
use Rattle.bit_boards.specs.declared.piece.Side.{Side}
use Rattle.bit_boards.specs.declared.piece.Side.TheVariants.{Black, White}
use Rattle.sfen_text.specs.Spelling.{cells_of_row}
use Rattle.kif_text.specs.Lines.{Meaning, goes_on, in_hand, meaning, other, row, turn, utf8}
use Rattle.kif_text.specs.Header.{rows_of}
use Rattle.kif_record.specs.Characters.{number_text}
use Rattle.kif_record.specs.Diagram.{cell_text, line, row_text}
use Rattle.kif_again.proofs.Lines.{text_of}
use Rattle.kif_again.proofs.Numbers.{number_again}
use Rattle.kif_again.proofs.Rows.{cells_characters, cells_written, row_characters}
use Rattle.kif_again.proofs.Written.{Written, is_plain, written-append, written_chars}

abbrev pub white_line : List ℕ → List ℕ
white_line hand = utf8 "後手の持駒：" ++ hand

abbrev pub black_line : List ℕ → List ℕ
black_line hand = utf8 "先手の持駒：" ++ hand

abbrev pub files_line : List ℕ
files_line = utf8 "  ９ ８ ７ ６ ５ ４ ３ ２ １"

abbrev pub frame_line : List ℕ
frame_line = utf8 "+---------------------------+"

abbrev pub moves_line : List ℕ
moves_line = utf8 "手数----指手---------消費時間--"

abbrev pub turn_lines : Side → List (List ℕ)
turn_lines Black = []
turn_lines White = utf8 "後手番" ∷ []

abbrev pub header : List (Option Piece) → List ℕ → List ℕ → Side → List (List ℕ)
header cells white black side =
    white_line white ∷ files_line ∷ frame_line ∷ row_text cells 1 ∷ row_text cells 2 ∷ row_text cells 3 ∷ row_text cells 4 ∷ row_text cells 5
    ∷ row_text cells 6 ∷ row_text cells 7 ∷ row_text cells 8 ∷ row_text cells 9 ∷ frame_line ∷ black_line black ∷ turn_lines side

-- The lines up to that over the moves.
pub header_taken : (cells : List (Option Piece)) (white black : List ℕ) (side : Side) (rest : List (List ℕ))
    → take_while goes_on (header cells white black side ++ moves_line ∷ rest) ≡ header cells white black side
unfolding lib.Utf8.encode
header_taken cells white black Black rest = refl
header_taken cells white black White rest = refl

pub row_number_of : (n : ℕ) → 1 ≤ n → n ≤ 9 → ℕ
row_number_of n from to = (number_again n from (omega (arith, to))).0

-- What a row says.
pub row_says : (cells : List (Option Piece)) (n : ℕ) (from : 1 ≤ n) (to : n ≤ 9) → meaning (row_text cells n) ≡ row (row_characters cells n (row_number_of n from to))
unfolding lib.Utf8.encode row_number_of
row_says cells n from to =
    let cells_w = cells_written (cells_of_row cells n) in
    let bar : Written (124 ∷ []) (124 ∷ []) = record { is = refl; scalars = refl; plain = refl } in
    let number = number_again n from (omega (arith, to)) in
    let whole = written-append _ _ _ _ (written-append _ _ _ _ cells_w bar) number.1 in
    ap row (written_chars _ _ whole ∙ append_assoc (cells_characters (cells_of_row cells n)) (124 ∷ []) (number.0 ∷ []))

pub row_written : (cells : List (Option Piece)) (n : ℕ) → 1 ≤ n → n ≤ 9 → (characters : List ℕ) × Written (row_text cells n) characters
unfolding lib.Utf8.encode
row_written cells n from to =
    let bar : Written (124 ∷ []) (124 ∷ []) = record { is = refl; scalars = refl; plain = refl } in
    (_, written-append _ _ _ _ (written-append _ _ _ _ (written-append _ _ _ _ bar (cells_written (cells_of_row cells n))) bar) (number_again n from (omega (arith, to))).1)
