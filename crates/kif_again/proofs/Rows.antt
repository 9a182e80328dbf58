-- What is written for the rows of a board is read as them.
use Rattle.std.proofs.Common.{◌≡◌, ◌≢◌, ◌==◌, inl, inr, false, is_some, ⊎_elim, ◌<◌, ◌≤◌, ◌+◌, ◌-◌, ◌*◌, ◌/◌, ◌%◌, ◌++◌, ℕ, zero, suc, List, [], ◌∷◌, length, Option, Some, None, true, refl, sym, subst, ap, ◌∙◌, arith, slice_get, slice_index, append_assoc, chars, length-append}
use Rattle.std.specs.List.{flat_map}
use Rattle.bit_boards.specs.declared.piece.Piece.{Piece}
use Rattle.std.proofs.lemmas.Bool.{cases_Bool, both_ways, cond-false, eq-eqb, eqb-true}
use Rattle.bit_boards.specs.Square.{square_on}
use Rattle.board_core.specs.Board.{piece_at}
use Rattle.sfen_text.specs.Spelling.{cells_of_row, row_from}
use Rattle.kif_text.specs.Characters.{cell_of}
use Rattle.kif_text.specs.declared.fault.KifFault.{KifFault}
use Rattle.kif_text.specs.Rows.{HasRowFault, cell_in, is_well}
use Rattle.kif_record.specs.Diagram.{cell_text}
use Rattle.kif_again.proofs.Cells.{CellAgain, cell_again}
use Rattle.kif_again.proofs.Written.{Written, written-append, written-nothing}

-- The characters of cells, one after the other.
abbrev pub cells_characters : List (Option Piece) → List ℕ
cells_characters [] = []
cells_characters (cell ∷ cells) = (cell_again cell).mark ∷ (cell_again cell).shown ∷ cells_characters cells

pub cells_written : (cells : List (Option Piece)) → Written (flat_map cell_text cells) (cells_characters cells)
cells_written [] = written-nothing
cells_written (cell ∷ cells) = written-append (cell_text cell) (flat_map cell_text cells) ((cell_again cell).mark ∷ (cell_again cell).shown ∷ []) (cells_characters cells) (cell_again cell).written (cells_written cells)

pub cells_long : (cells : List (Option Piece)) → length (cells_characters cells) ≡ 2 * length cells
cells_long [] = refl
cells_long (cell ∷ cells) = let more = cells_long cells in omega (arith, more)

-- Each cell is read at its place, whatever stands behind.
pub cell_there : (cells : List (Option Piece)) (tail : List ℕ) (k : ℕ) (cell : Option Piece) → slice_get cells k ≡ Some cell
    → cell_of (slice_index (cells_characters cells ++ tail) (2 * k)) (slice_index (cells_characters cells ++ tail) (2 * k + 1)) ≡ Some cell
cell_there [] tail k cell there = absurd cc
cell_there (first ∷ cells) tail zero cell there =
    let same : first ≡ cell = cc in
    (cell_again first).reads ∙ ap Some same
cell_there (first ∷ cells) tail (suc k) cell there =
    let even : 2 * suc k ≡ suc (suc (2 * k)) = omega arith in
    let odd : 2 * suc k + 1 ≡ suc (suc (2 * k + 1)) = omega arith in
    rw (odd, even) (cell_there cells tail k cell there)

-- What stands on a row, by its place.
row_from_there : (cells : List (Option Piece)) (row_number m k : ℕ) → k < m → slice_get (row_from cells row_number m) k ≡ Some (piece_at cells (square_on (m - k) row_number))
row_from_there cells row_number zero k low = absurd (omega (arith, low))
row_from_there cells row_number (suc m) zero low = let same : suc m - 0 ≡ suc m = omega arith in rw same refl
row_from_there cells row_number (suc m) (suc k) low =
    let same : suc m - suc k ≡ m - k = omega arith in
    rw same (row_from_there cells row_number m k (omega (arith, low)))

pub row_there : (cells : List (Option Piece)) (row_number k : ℕ) → k < 9 → slice_get (cells_of_row cells row_number) k ≡ Some (piece_at cells (square_on (9 - k) row_number))
unfolding cells_of_row
row_there cells row_number k low = row_from_there cells row_number 9 k low

row_from_long : (cells : List (Option Piece)) (row_number m : ℕ) → length (row_from cells row_number m) ≡ m
row_from_long cells row_number zero = refl
row_from_long cells row_number (suc m) = ap suc (row_from_long cells row_number m)

pub row_long : (cells : List (Option Piece)) (row_number : ℕ) → length (cells_characters (cells_of_row cells row_number)) ≡ 18
unfolding cells_of_row
row_long cells row_number = let long = cells_long (row_from cells row_number 9) in omega (arith, long, row_from_long cells row_number 9)

-- The characters of a row behind its bar, with the number's.
abbrev pub row_characters : List (Option Piece) → ℕ → ℕ → List ℕ
row_characters cells row_number number = cells_characters (cells_of_row cells row_number) ++ 124 ∷ number ∷ []

-- A column of a row shows what stands there.
pub column_there : (cells : List (Option Piece)) (row_number number column : ℕ) → 1 ≤ column → column ≤ 9
    → cell_in (row_characters cells row_number number) column ≡ Some (piece_at cells (square_on (10 - column) row_number))
column_there cells row_number number column from to =
    let even : 2 * column - 2 ≡ 2 * (column - 1) = omega arith in
    let odd : 2 * column - 1 ≡ 2 * (column - 1) + 1 = omega arith in
    let file : 10 - column ≡ 9 - (column - 1) = omega arith in
    rw (odd, even, file) (cell_there (cells_of_row cells row_number) (124 ∷ number ∷ []) (column - 1) _ (row_there cells row_number (column - 1) (omega arith)))

at_end : (xs : List ℕ) (x : ℕ) (ys : List ℕ) (n : ℕ) → length xs ≡ n → slice_index (xs ++ x ∷ ys) n ≡ x
at_end [] x ys zero long = refl
at_end [] x ys (suc n) long = absurd (omega (arith, long))
at_end (y ∷ xs) x ys zero long = absurd (omega (arith, long))
at_end (y ∷ xs) x ys (suc n) long = at_end xs x ys n (omega (arith, long))

-- Each column is as it must be.
pub row_well : (cells : List (Option Piece)) (row_number number column : ℕ) → 1 ≤ column → column ≤ 10 → is_well (row_characters cells row_number number) column ≡ true
unfolding lib.Utf8.encode
row_well cells row_number number column from to =
    ⊎_elim
    (λ yes. rw (eqb-true column 10 yes) (ap (λ (c : ℕ). c == 124) (at_end (cells_characters (cells_of_row cells row_number)) 124 (number ∷ []) 18 (row_long cells row_number))))
    (λ other. cond-false _ _ _ other ∙ ap is_some (column_there cells row_number number column from (below other)))
    (cases_Bool (column == 10))
  where
    below : (column == 10) ≡ false → column ≤ 9
    below fails = let apart : column ≢ 10 = λ e. both_ways _ fails (eq-eqb column 10 e) in omega (arith, apart, to)

-- A row behind so few has no fault.
pub row_faultless : (cells : List (Option Piece)) (row_number number before : ℕ) (fault : KifFault) → before < 9 → HasRowFault before (row_characters cells row_number number) fault → ⊥
row_faultless cells row_number number before fault few is = elim is as (λ _. ⊥) [
  | inl many ↦ absurd (let le = many.0 in omega (arith, le, few))
  | inr bad ↦ both_ways _ bad.1.1.bad (row_well cells row_number number bad.1.0 bad.1.1.from bad.1.1.to)
]
