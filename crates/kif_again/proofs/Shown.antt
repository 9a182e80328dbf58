-- The lines of a diagram give its board.
use Rattle.std.proofs.Common.{◌≡◌, ◌≤◌, ◌<◌, ◌++◌, ◌+◌, ◌-◌, ◌*◌, ◌/◌, ◌%◌, ℕ, zero, suc, Bool, true, false, List, [], ◌∷◌, length, map, Option, Some, None, refl, sym, subst, ap, ◌∙◌, arith, slice_get, slice_index_or}
use Rattle.std.specs.Prelude.{unwrap_or}
use Rattle.std.specs.List.{range_with_len}
use Rattle.std.proofs.lemmas.List.{append-nil, ext_get_or, length-append}
use Rattle.std.proofs.lemmas.List.FromFn.{length-map-range_with_len, get_or-map-range_with_len}
use Rattle.board_laws.proofs.Cells.{piece_at_is}
use Rattle.std.proofs.lemmas.List.Concat.{flat_map-append}
use Rattle.bit_boards.specs.declared.piece.Piece.{Piece}
use Rattle.bit_boards.specs.declared.piece.Side.{Side}
use Rattle.bit_boards.specs.declared.piece.Side.TheVariants.{Black, White}
use Rattle.bit_boards.specs.Square.{square_on}
use Rattle.board_core.specs.Board.{Board, content_of, piece_at}
use Rattle.kif_text.specs.declared.fault.KifFault.{KifFault}
use Rattle.kif_text.specs.First.{HasNone}
use Rattle.kif_text.specs.Lines.{Meaning, in_hand, meaning, other, row, turn, utf8}
use Rattle.kif_text.specs.Header.{HasFaultSaid, HasLineFault, Shows, hand_said, last_said, row_said, rows_of, turn_said}
use Rattle.kif_text.specs.Rows.{HasRowFault, cell_in, cells_of}
use Rattle.kif_text.specs.Words.{hand_of}
use Rattle.kif_text.proofs.Offered.{none_in_more, none_in_nothing}
use Rattle.kif_record.specs.Diagram.{row_text}
use Rattle.kif_again.proofs.Hand.{HandAgain}
use Rattle.kif_again.proofs.Header.{black_line, files_line, frame_line, header, row_number_of, row_says, turn_lines, white_line}
use Rattle.kif_again.proofs.Rows.{column_there, row_characters, row_faultless}

-- The characters of a row of this number.
abbrev pub row_of : List (Option Piece) → (n : ℕ) → 1 ≤ n → n ≤ 9 → List ℕ
row_of cells n from to = row_characters cells n (row_number_of n from to)

abbrev pub rows_characters : List (Option Piece) → List (List ℕ)
rows_characters cells =
    row_of cells 1 (omega arith) (omega arith) ∷ row_of cells 2 (omega arith) (omega arith) ∷ row_of cells 3 (omega arith) (omega arith)
    ∷ row_of cells 4 (omega arith) (omega arith) ∷ row_of cells 5 (omega arith) (omega arith) ∷ row_of cells 6 (omega arith) (omega arith)
    ∷ row_of cells 7 (omega arith) (omega arith) ∷ row_of cells 8 (omega arith) (omega arith) ∷ row_of cells 9 (omega arith) (omega arith) ∷ []

rows_row : (cells : List (Option Piece)) (n : ℕ) (from : 1 ≤ n) (to : n ≤ 9) (lines : List (List ℕ)) (rows : List (List ℕ)) → rows_of lines ≡ rows
    → rows_of (row_text cells n ∷ lines) ≡ row_of cells n from to ∷ rows
unfolding rows_of
rows_row cells n from to lines rows is =
    ap (λ (m : Meaning). row_said m ++ rows_of lines) (row_says cells n from to) ∙ ap (λ (rs : List (List ℕ)). row_of cells n from to ∷ rs) is

rows_behind : (black : List ℕ) (side : Side) → rows_of (frame_line ∷ black_line black ∷ turn_lines side) ≡ []
unfolding lib.Utf8.encode rows_of
rows_behind black Black = refl
rows_behind black White = refl

-- The lines from a row on.
abbrev behind_rows : List ℕ → Side → List (List ℕ)
behind_rows black side = frame_line ∷ black_line black ∷ turn_lines side

abbrev rows_9 : List (Option Piece) → List ℕ → Side → List (List ℕ)
rows_9 cells black side = row_text cells 9 ∷ behind_rows black side

abbrev rows_8 : List (Option Piece) → List ℕ → Side → List (List ℕ)
rows_8 cells black side = row_text cells 8 ∷ rows_9 cells black side

abbrev rows_7 : List (Option Piece) → List ℕ → Side → List (List ℕ)
rows_7 cells black side = row_text cells 7 ∷ rows_8 cells black side

abbrev rows_6 : List (Option Piece) → List ℕ → Side → List (List ℕ)
rows_6 cells black side = row_text cells 6 ∷ rows_7 cells black side

abbrev rows_5 : List (Option Piece) → List ℕ → Side → List (List ℕ)
rows_5 cells black side = row_text cells 5 ∷ rows_6 cells black side

abbrev rows_4 : List (Option Piece) → List ℕ → Side → List (List ℕ)
rows_4 cells black side = row_text cells 4 ∷ rows_5 cells black side

abbrev rows_3 : List (Option Piece) → List ℕ → Side → List (List ℕ)
rows_3 cells black side = row_text cells 3 ∷ rows_4 cells black side

abbrev rows_2 : List (Option Piece) → List ℕ → Side → List (List ℕ)
rows_2 cells black side = row_text cells 2 ∷ rows_3 cells black side

abbrev rows_1 : List (Option Piece) → List ℕ → Side → List (List ℕ)
rows_1 cells black side = row_text cells 1 ∷ rows_2 cells black side

-- The rows that the lines give.
pub rows_given : (cells : List (Option Piece)) (white black : List ℕ) (side : Side) → rows_of (header cells white black side) ≡ rows_characters cells
unfolding lib.Utf8.encode rows_of
rows_given cells white black side =
    rows_row cells 1 (omega arith) (omega arith) (rows_2 cells black side) _ (rows_row cells 2 (omega arith) (omega arith) (rows_3 cells black side) _ (
    rows_row cells 3 (omega arith) (omega arith) (rows_4 cells black side) _ (rows_row cells 4 (omega arith) (omega arith) (rows_5 cells black side) _ (
    rows_row cells 5 (omega arith) (omega arith) (rows_6 cells black side) _ (rows_row cells 6 (omega arith) (omega arith) (rows_7 cells black side) _ (
    rows_row cells 7 (omega arith) (omega arith) (rows_8 cells black side) _ (rows_row cells 8 (omega arith) (omega arith) (rows_9 cells black side) _ (
    rows_row cells 9 (omega arith) (omega arith) (behind_rows black side) _ (rows_behind black side)))))))))

-- What a line says has no fault: nothing, whose turn it is, a row of few, or a hand.
row_sound : (cells : List (Option Piece)) (n : ℕ) (from : 1 ≤ n) (to : n ≤ 9) (before : List (List ℕ)) (fault : KifFault) → length (rows_of before) < 9
    → HasLineFault before (row_text cells n) fault → ⊥
row_sound cells n from to before fault few is =
    row_faultless cells n (row_number_of n from to) (length (rows_of before)) fault few
    (subst (λ (m : Meaning). HasFaultSaid (length before + 1) (length (rows_of before)) m fault) (row_says cells n from to) is)

-- Lines were read so far: none has a fault, and they give so many rows.
record Read (count : ℕ) (lines : List (List ℕ)) : Type 0 where
  pub none : HasNone HasLineFault lines
  pub rows : length (rows_of lines) ≡ count

one_more : (lines : List (List ℕ)) (line : List ℕ) (m : Meaning) → meaning line ≡ m → rows_of (lines ++ line ∷ []) ≡ rows_of lines ++ row_said m
unfolding rows_of
one_more lines line m is = flat_map-append (λ (l : List ℕ). row_said (meaning l)) lines (line ∷ []) ∙ ap (λ (n : Meaning). rows_of lines ++ (row_said n ++ [])) is ∙ ap (λ (t : List (List ℕ)). rows_of lines ++ t) (append-nil (row_said m))

-- One more line, which gives no row.
plain_more : (count : ℕ) (lines : List (List ℕ)) (line : List ℕ) (m : Meaning) → meaning line ≡ m → row_said m ≡ []
    → ((number rows : ℕ) (fault : KifFault) → HasFaultSaid number rows m fault → ⊥) → Read count lines → Read count (lines ++ line ∷ [])
plain_more count lines line m is rowless sound read = record {
  none = none_in_more HasLineFault lines line read.none (λ fault has. sound _ _ fault (subst (λ (n : Meaning). HasFaultSaid (length lines + 1) (length (rows_of lines)) n fault) is has));
  rows = ap length (one_more lines line m is ∙ ap (λ (t : List (List ℕ)). rows_of lines ++ t) rowless ∙ append-nil (rows_of lines)) ∙ read.rows;
}

-- One more row.
row_more : (count : ℕ) (lines : List (List ℕ)) (cells : List (Option Piece)) (n : ℕ) (from : 1 ≤ n) (to : n ≤ 9) → count < 9 → Read count lines → Read (count + 1) (lines ++ row_text cells n ∷ [])
row_more count lines cells n from to few read = record {
  none = none_in_more HasLineFault lines (row_text cells n) read.none (λ fault has. row_sound cells n from to lines fault (omega (arith, few, read.rows)) has);
  rows = ap length (one_more lines (row_text cells n) _ (row_says cells n from to)) ∙ length-append (rows_of lines) (row_of cells n from to ∷ []) ∙ ap (λ (k : ℕ). k + 1) read.rows;
}

nothing_read : Read 0 []
unfolding rows_of
nothing_read = record { none = none_in_nothing HasLineFault; rows = refl }

-- All lines of the diagram.
all_read : (cells : List (Option Piece)) (white black hand_w hand_b : List ℕ) (side : Side) → HandAgain white hand_w → HandAgain black hand_b → Read 9 (header cells white black side)
unfolding lib.Utf8.encode
all_read cells white black hand_w hand_b side w b =
    let a1 = plain_more 0 [] (white_line white) (in_hand White white) refl refl (λ number rows fault has. w.none number fault has) nothing_read in
    let a2 = plain_more 0 _ files_line other refl refl (λ number rows fault has. has) a1 in
    let a3 = plain_more 0 _ frame_line other refl refl (λ number rows fault has. has) a2 in
    let r1 = row_more 0 _ cells 1 (omega arith) (omega arith) (omega arith) a3 in
    let r2 = row_more 1 _ cells 2 (omega arith) (omega arith) (omega arith) r1 in
    let r3 = row_more 2 _ cells 3 (omega arith) (omega arith) (omega arith) r2 in
    let r4 = row_more 3 _ cells 4 (omega arith) (omega arith) (omega arith) r3 in
    let r5 = row_more 4 _ cells 5 (omega arith) (omega arith) (omega arith) r4 in
    let r6 = row_more 5 _ cells 6 (omega arith) (omega arith) (omega arith) r5 in
    let r7 = row_more 6 _ cells 7 (omega arith) (omega arith) (omega arith) r6 in
    let r8 = row_more 7 _ cells 8 (omega arith) (omega arith) (omega arith) r7 in
    let r9 = row_more 8 _ cells 9 (omega arith) (omega arith) (omega arith) r8 in
    let a4 = plain_more 9 _ frame_line other refl refl (λ number rows fault has. has) r9 in
    let a5 = plain_more 9 _ (black_line black) (in_hand Black black) refl refl (λ number rows fault has. b.none number fault has) a4 in
    last side a5
  where
    last : (side : Side) → Read 9 (header cells white black Black) → Read 9 (header cells white black side)
    last Black read = read
    last White read = plain_more 9 _ (utf8 "後手番") (turn White) refl refl (λ number rows fault has. has) read

row_at : (cells : List (Option Piece)) (k : ℕ) → k < 9 → (number : ℕ) × (slice_index_or (rows_characters cells) k [] ≡ row_characters cells (k + 1) number)
row_at cells zero low = (_, refl)
row_at cells (suc zero) low = (_, refl)
row_at cells (suc (suc zero)) low = (_, refl)
row_at cells (suc (suc (suc zero))) low = (_, refl)
row_at cells (suc (suc (suc (suc zero)))) low = (_, refl)
row_at cells (suc (suc (suc (suc (suc zero))))) low = (_, refl)
row_at cells (suc (suc (suc (suc (suc (suc zero)))))) low = (_, refl)
row_at cells (suc (suc (suc (suc (suc (suc (suc zero))))))) low = (_, refl)
row_at cells (suc (suc (suc (suc (suc (suc (suc (suc zero)))))))) low = (_, refl)
row_at cells (suc (suc (suc (suc (suc (suc (suc (suc (suc k))))))))) low = absurd (omega (arith, low))

all_cells : (rows : List (List ℕ)) (cells : List (Option Piece)) → length cells ≡ 81
    → ((number column : ℕ) → number < 9 → 1 ≤ column → column ≤ 9 → piece_at cells (9 * (9 - column) + number) ≡ content_of (cell_in (slice_index_or rows number []) column))
    → cells ≡ cells_of rows
unfolding cells_of
all_cells rows cells size each =
    let at : ℕ → Option Piece = λ square. content_of (cell_in (slice_index_or rows (square % 9) []) (9 - square / 9)) in
    ext_get_or None cells (map at (range_with_len 0 81)) (size ∙ sym (length-map-range_with_len at 0 81))
    (λ s low. sym (piece_at_is cells s) ∙ ap (λ (k : ℕ). piece_at cells k) (place s (omega (arith, low, size))) ∙ each (s % 9) (9 - s / 9) (omega arith) (omega (arith, low, size)) (omega arith)
    ∙ sym (get_or-map-range_with_len at 0 81 s s None (omega arith) (omega (arith, low, size))))
  where
    place : (s : ℕ) → s < 81 → s ≡ 9 * (9 - (9 - s / 9)) + s % 9
    place s low = omega (arith, low)

pub cells_given : (cells : List (Option Piece)) → length cells ≡ 81 → cells ≡ cells_of (rows_characters cells)
cells_given cells size = all_cells (rows_characters cells) cells size each
  where
    each : (number column : ℕ) → number < 9 → 1 ≤ column → column ≤ 9 → piece_at cells (9 * (9 - column) + number) ≡ content_of (cell_in (slice_index_or (rows_characters cells) number []) column)
    each number column low from to =
        let row = row_at cells number low in
        let square : 9 * (9 - column) + number ≡ square_on (10 - column) (number + 1) = omega (arith, from, to) in
        ap (λ (s : ℕ). piece_at cells s) square ∙ ap content_of (sym (column_there cells (number + 1) row.0 column from to)) ∙ ap (λ (r : List ℕ). content_of (cell_in r column)) (sym row.1)

black_said : (cells : List (Option Piece)) (white black : List ℕ) (side : Side) → last_said (hand_said Black) (header cells white black side) ≡ Some black
unfolding lib.Utf8.encode last_said
black_said cells white black Black = refl
black_said cells white black White = refl

white_said : (cells : List (Option Piece)) (white black : List ℕ) (side : Side) → last_said (hand_said White) (header cells white black side) ≡ Some white
unfolding lib.Utf8.encode last_said
white_said cells white black Black = refl
white_said cells white black White = refl

side_said : (cells : List (Option Piece)) (white black : List ℕ) (side : Side) → unwrap_or (last_said turn_said (header cells white black side)) Black ≡ side
unfolding lib.Utf8.encode last_said
side_said cells white black Black = refl
side_said cells white black White = refl

-- The lines of the diagram show the board.
pub header_shows : (b : Board) (white black : List ℕ) → length b.cells ≡ 81 → HandAgain white b.white → HandAgain black b.black → Shows (header b.cells white black b.side) b
header_shows b white black size w k =
    let read = all_read b.cells white black b.white b.black b.side w k in
    record {
      well = read.none;
      nine = read.rows;
      cells = cells_given b.cells size ∙ ap cells_of (sym (rows_given b.cells white black b.side));
      black = sym k.is_hand ∙ ap hand_of (sym (black_said b.cells white black b.side));
      white = sym w.is_hand ∙ ap hand_of (sym (white_said b.cells white black b.side));
      side = sym (side_said b.cells white black b.side);
    }
