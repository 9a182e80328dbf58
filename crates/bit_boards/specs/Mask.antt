-- Sets of squares, by the numbers of the squares from 0 to 80.
use Rattle.std.specs.Prelude.{◌≡◌, ◌<◌, ◌==◌, ℕ, Bool, List, IsTrue, count_by, filter}
use Rattle.std.specs.Int.{bit_at}
use Rattle.std.specs.List.{range_with_len}
use Rattle.bit_boards.specs.declared.mask.Mask.{Mask}

-- Whether the set has the square of a number: whether that bit of it is set.
unfoldable pub holds : Mask → ℕ → Bool
holds mask square = bit_at mask.bits square == 1

-- The set has the square of a number.
abbrev pub Holds : Mask → ℕ → Type 0
Holds mask square = IsTrue (holds mask square)

-- How many squares the set has.
unfoldable pub count : Mask → ℕ
count mask = count_by (holds mask) (range_with_len 0 81)

-- The squares of a set in rising order.
unfoldable pub squares_of : Mask → List ℕ
squares_of mask = filter (holds mask) (range_with_len 0 81)

-- A law: sets hold nothing but squares of the board.
abbrev pub MasksOnBoard : Type 0
MasksOnBoard = (mask : Mask) (square : ℕ) → Holds mask square → square < 81

-- A law: sets that have the same squares are one.
abbrev pub MasksApart : Type 0
MasksApart = (a b : Mask) → ((square : ℕ) → square < 81 → holds a square ≡ holds b square) → a ≡ b
