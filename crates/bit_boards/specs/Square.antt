use Rattle.std.specs.Prelude.{◌+◌, ◌-◌, ◌*◌, ◌/◌, ◌%◌, ℕ}
use Rattle.bit_boards.specs.declared.piece.Side.{Side}
use Rattle.bit_boards.specs.declared.piece.Side.TheVariants.{Black, White}

-- The file of a square: 1 to 9, from right to left as Black sees the board.
abbrev pub file_of : ℕ → ℕ
file_of square = square / 9 + 1

-- The row of a square: 1 to 9 (written a to i), from top to bottom. Black moves towards row 1.
abbrev pub row_of : ℕ → ℕ
row_of square = square % 9 + 1

-- The number of the square on a file and a row: file by file, each from its row 1.
abbrev pub square_on : ℕ → ℕ → ℕ
square_on file row = 9 * (file - 1) + (row - 1)

-- How high a square lies for a side, from 0 on its own first row to 8 on its last: forward is up,
-- for both sides. Black's first row is row 9, White's row 1.
abbrev pub height : Side → ℕ → ℕ
height Black square = 8 - square % 9
height White square = square % 9
