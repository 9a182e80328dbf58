-- Cells stand in a row one behind the other.
use Rattle.std.proofs.Common.{◌≡◌, ℕ, ◌+◌, ◌-◌, ◌*◌, ◌<◌, ◌≤◌, true, false, List, length, drop, refl, sym, ap, inl, inr, ◌∙◌, arith, Option, Some, None, below_more}
use borrow.Author.Tests.{ne_eqb}
use Rattle.std.specs.Prelude.{slice_index, slice_set, is_some}
use Rattle.std.proofs.lemmas.Bool.Decides.{eqb_tells}
use Rattle.std.proofs.lemmas.List.{get_or-drop, drop-drop, get_or-set_other}
use Rattle.board_laws.proofs.Cells.{piece_at-set_same, piece_at_is}
use Rattle.bit_boards.specs.declared.piece.Piece.{Piece}
use Rattle.board_core.specs.Board.{piece_at, content_of}
use Rattle.kif_text.specs.Characters.{is, cell_of}
use Rattle.kif_text.specs.Rows.{cell_in, is_well, HasBadColumn}

elsewhere : (cells : List (Option Piece)) (place k : ℕ) (cell : Option Piece) → k < place → piece_at (slice_set cells place cell) k ≡ piece_at cells k
elsewhere cells place k cell other = piece_at_is (slice_set cells place cell) k ∙ get_or-set_other cells place k cell None (λ e. omega arith) ∙ sym (piece_at_is cells k)

-- The cell of the next column is what stands next.
pub next_cell : (row rest : List ℕ) (place : ℕ) → rest ≡ drop (2 * place) row → cell_in row (place + 1) ≡ cell_of (slice_index rest 0) (slice_index rest 1)
next_cell row rest place is =
    let one : slice_index rest 0 ≡ slice_index row (2 * (place + 1) - 2) = ap (λ (l : List ℕ). slice_index l 0) is ∙ get_or-drop (2 * place) row 0 0 ∙ ap (λ n. slice_index row n) (omega arith) in
    let two : slice_index rest 1 ≡ slice_index row (2 * (place + 1) - 1) = ap (λ (l : List ℕ). slice_index l 1) is ∙ get_or-drop (2 * place) row 1 0 ∙ ap (λ n. slice_index row n) (omega arith) in
    λ i. cell_of (sym one i) (sym two i)

-- What stands behind the next cell.
pub next_cells : (row rest behind : List ℕ) (place : ℕ) → rest ≡ drop (2 * place) row → behind ≡ drop 2 rest → behind ≡ drop (2 * (place + 1)) row
next_cells row rest behind place is next = next ∙ ap (λ (l : List ℕ). drop 2 l) is ∙ drop-drop 2 (2 * place) row ∙ ap (λ n. drop n row) (omega arith)

-- One more cell was written.
pub cells_more : (row : List ℕ) (cells : List (Option Piece)) (place : ℕ) (cell : Option Piece) → place < length cells → cell_in row (place + 1) ≡ Some cell
    → ((k : ℕ) → k < place → cell_in row (k + 1) ≡ Some (piece_at cells k)) → (k : ℕ) → k < place + 1 → cell_in row (k + 1) ≡ Some (piece_at (slice_set cells place cell) k)
cells_more row cells place cell fits is before = below_more (λ k. cell_in row (k + 1) ≡ Some (piece_at (slice_set cells place cell) k)) place
    (λ k lt. before k lt ∙ ap (λ (x : Option Piece). Some x) (sym (elsewhere cells place k cell (omega arith))))
    (is ∙ ap (λ (x : Option Piece). Some x) (sym (piece_at-set_same cells place cell fits)))

-- A column before the tenth is as it must be where it is a cell.
well_cell : (row : List ℕ) (column : ℕ) → column ≤ 9 → is_well row column ≡ is_some (cell_in row column)
well_cell row column few = rw (ne_eqb column 10 (λ e. omega arith)) refl

well_before : (row : List ℕ) (place : ℕ) (cells : List (Option Piece)) → ((k : ℕ) → k < place → cell_in row (k + 1) ≡ Some (piece_at cells k))
    → (column : ℕ) → 1 ≤ column → column ≤ 9 → column < place + 1 → is_well row column ≡ true
well_before row place cells each column from to below =
    let same : (column - 1) + 1 ≡ column = omega arith in
    well_cell row column to ∙ ap (λ (x : Option (Option Piece)). is_some x) (ap (λ n. cell_in row n) (sym same) ∙ each (column - 1) (omega arith))

-- The next two characters are no cell.
pub bad_cell : (row rest : List ℕ) (place : ℕ) (cells : List (Option Piece)) → place < 9 → rest ≡ drop (2 * place) row → ((k : ℕ) → k < place → cell_in row (k + 1) ≡ Some (piece_at cells k))
    → cell_of (slice_index rest 0) (slice_index rest 1) ≡ None → HasBadColumn row (place + 1)
bad_cell row rest place cells lt is each none = record {
  from = omega arith;
  to = omega arith;
  bad = well_cell row (place + 1) (omega arith) ∙ ap (λ (x : Option (Option Piece)). is_some x) (next_cell row rest place is ∙ none);
  first = λ earlier from below. well_before row place cells each earlier from (omega arith) below;
}

closing : (row rest : List ℕ) → rest ≡ drop (2 * 9) row → slice_index rest 0 ≡ slice_index row 18
closing row rest is = ap (λ (l : List ℕ). slice_index l 0) is ∙ get_or-drop 18 row 0 0

-- Behind nine cells no bar stands.
pub open_row : (row rest : List ℕ) (cells : List (Option Piece)) → rest ≡ drop (2 * 9) row → ((k : ℕ) → k < 9 → cell_in row (k + 1) ≡ Some (piece_at cells k)) → is (slice_index rest 0) "|" ≡ false → HasBadColumn row 10
open_row row rest cells at each unshut = record {
  from = omega arith;
  to = omega arith;
  bad = ap (λ c. is c "|") (sym (closing row rest at)) ∙ unshut;
  first = λ earlier from below. well_before row 9 cells each earlier from (omega arith) (omega arith);
}

-- Nine cells and a bar are a row.
pub closed_row : (row rest : List ℕ) (cells : List (Option Piece)) → rest ≡ drop (2 * 9) row → ((k : ℕ) → k < 9 → cell_in row (k + 1) ≡ Some (piece_at cells k)) → is (slice_index rest 0) "|" ≡ true
    → ((column : ℕ) → 1 ≤ column → column ≤ 10 → is_well row column ≡ true) × ((column : ℕ) → 1 ≤ column → column ≤ 9 → piece_at cells (column - 1) ≡ content_of (cell_in row column))
closed_row row rest cells at each shut = (
  λ column from to. elim (eqb_tells column 10) [
    | inl t ↦ ap (λ n. is_well row n) t.1 ∙ ap (λ c. is c "|") (sym (closing row rest at)) ∙ shut
    | inr f ↦ well_before row 9 cells each column from (omega (arith, f.1)) (omega (arith, f.1))
  ],
  λ column from to. let same : (column - 1) + 1 ≡ column = omega arith in ap (λ (x : Option (Option Piece)). content_of x) (sym (each (column - 1) (omega arith)) ∙ ap (λ n. cell_in row n) same),
)
