-- A row of the diagram: behind its bar nine cells of two characters, from file 9 to file 1, and a
-- bar.
use Rattle.std.specs.Prelude.{◌≡◌, ◌⊎◌, ◌≤◌, ◌<◌, ◌+◌, ◌-◌, ◌*◌, ◌/◌, ◌%◌, ◌==◌, ℕ, List, [], map, Bool, true, false, is_some, Option, slice_index, slice_index_or, if◌then◌else◌}
use Rattle.std.specs.List.{range_with_len}
use Rattle.bit_boards.specs.declared.piece.Piece.{Piece}
use Rattle.board_core.specs.Board.{content_of}
use Rattle.kif_text.specs.declared.fault.KifFault.{KifFault}
use Rattle.kif_text.specs.declared.fault.KifFault.TheVariants.{BadCell}
use Rattle.kif_text.specs.Characters.{is, cell_of}

-- What the cell in a column of a row shows, the first column being 1; the row is given by the
-- characters behind its bar.
abbrev pub cell_in : List ℕ → ℕ → Option (Option Piece)
cell_in row column = cell_of (slice_index row (2 * column - 2)) (slice_index row (2 * column - 1))

-- Whether a column of a row is as it must be: a cell in the columns 1 to 9, the closing bar in
-- column 10.
abbrev pub is_well : List ℕ → ℕ → Bool
is_well row column = if column == 10 then is (slice_index row 18) "|" else is_some (cell_in row column)

-- The first column of a row that isn't as it must be.
pub record HasBadColumn (row : List ℕ) (column : ℕ) : Type 0 where
  pub from : 1 ≤ column
  pub to : column ≤ 10
  pub bad : is_well row column ≡ false
  pub first : (earlier : ℕ) → 1 ≤ earlier → earlier < column → is_well row earlier ≡ true

-- A row that stands behind so many rows has the fault: it is the tenth, or its first bad column has
-- it. Rows count from 1.
abbrev pub HasRowFault : ℕ → List ℕ → KifFault → Type 0
HasRowFault before row fault = ((9 ≤ before) × (fault ≡ BadCell 10 1)) ⊎ ((before < 9) × ((column : ℕ) × HasBadColumn row column × (fault ≡ BadCell (before + 1) column)))

-- The 81 cells by the number of the square, from the nine rows, a first: file f stands in column 10
-- - f.
unfoldable pub cells_of : List (List ℕ) → List (Option Piece)
cells_of rows = map (λ square. content_of (cell_in (slice_index_or rows (square % 9) []) (9 - square / 9))) (range_with_len 0 81)
