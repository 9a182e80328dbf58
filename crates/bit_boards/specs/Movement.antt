-- How the pieces move on an empty board, and what lies between two squares.
use Rattle.std.specs.Prelude.{◌≡◌, ◌<◌, ◌+◌, ◌-◌, ◌/◌, ◌%◌, ◌&&◌, ◌||◌, ◌==◌, ◌⊎◌, ℕ, Bool, true, false, nat_le, nat_lt, IsTrue}
use Rattle.bit_boards.specs.declared.piece.Kind.{Kind}
use Rattle.bit_boards.specs.declared.piece.Kind.TheVariants.{Pawn, Lance, Knight, Silver, Gold, Bishop, Rook, King}
use Rattle.bit_boards.specs.declared.piece.Piece.{Piece}
use Rattle.bit_boards.specs.Square.{height}

-- How far apart two numbers are.
abbrev pub distance : ℕ → ℕ → ℕ
distance a b = (a - b) + (b - a)

-- A gold steps one up, straight or aside; one aside; or one straight down.
abbrev pub gold_steps : ℕ → ℕ → ℕ → Bool
gold_steps aside low high =
    (nat_le aside 1 && (high == low + 1)) || ((aside == 1) && (high == low)) || ((aside == 0) && (low == high + 1))

-- The single steps of a piece, promoted or not. A knight jumps two up and one aside. A silver steps
-- one up, straight or aside, or one down aside. A king steps to any neighbour. A promoted pawn,
-- lance, knight or silver steps as a gold does. A promoted bishop steps one along a file or a row
-- besides its slides, a promoted rook one diagonally.
abbrev pub steps : Kind → Bool → ℕ → ℕ → ℕ → Bool
steps Pawn false aside low high = (aside == 0) && (high == low + 1)
steps Pawn true aside low high = gold_steps aside low high
steps Lance false aside low high = false
steps Lance true aside low high = gold_steps aside low high
steps Knight false aside low high = (aside == 1) && (high == low + 2)
steps Knight true aside low high = gold_steps aside low high
steps Silver false aside low high = (nat_le aside 1 && (high == low + 1)) || ((aside == 1) && (low == high + 1))
steps Silver true aside low high = gold_steps aside low high
steps Gold promoted aside low high = gold_steps aside low high
steps Bishop false aside low high = false
steps Bishop true aside low high = (aside + distance low high) == 1
steps Rook false aside low high = false
steps Rook true aside low high = (aside == 1) && (distance low high == 1)
steps King promoted aside low high = nat_le aside 1 && nat_le (distance low high) 1 && nat_le 1 (aside + distance low high)

-- The slides of a piece, any distance as far as the squares between are empty: a lance straight up,
-- a bishop along a diagonal, a rook along a file or a row. A promoted bishop and a promoted rook
-- keep their slides; a promoted lance doesn't.
abbrev pub slides : Kind → Bool → ℕ → ℕ → ℕ → Bool
slides Pawn promoted aside low high = false
slides Lance false aside low high = (aside == 0) && nat_lt low high
slides Lance true aside low high = false
slides Knight promoted aside low high = false
slides Silver promoted aside low high = false
slides Gold promoted aside low high = false
slides Bishop promoted aside low high = nat_le 1 aside && (aside == distance low high)
slides Rook promoted aside low high = ((aside == 0) && nat_le 1 (distance low high)) || (nat_le 1 aside && (low == high))
slides King promoted aside low high = false

-- The piece goes from the one square to the other by a single step or a knight's jump.
abbrev pub goes_by_step : Piece → ℕ → ℕ → Bool
goes_by_step piece from to =
    steps piece.kind piece.promoted (distance (from / 9) (to / 9)) (height piece.side from) (height piece.side to)

-- The piece goes from the one square to the other by a slide over an empty board.
abbrev pub goes_by_slide : Piece → ℕ → ℕ → Bool
goes_by_slide piece from to =
    slides piece.kind piece.promoted (distance (from / 9) (to / 9)) (height piece.side from) (height piece.side to)

-- On an empty board the piece goes from the one square to the other, by a step or a slide.
abbrev pub fits : Piece → ℕ → ℕ → Bool
fits piece from to = goes_by_step piece from to || goes_by_slide piece from to

-- The number y lies strictly between x and z, whichever of these is the greater.
abbrev pub IsInside : ℕ → ℕ → ℕ → Type 0
IsInside x y z = ((x < y) × (y < z)) ⊎ ((z < y) × (y < x))

-- The square m lies strictly between a and b on one file.
pub record IsOnFile (a m b : ℕ) : Type 0 where
  pub here : a / 9 ≡ m / 9
  pub there : b / 9 ≡ m / 9
  pub inside : IsInside (a % 9) (m % 9) (b % 9)

-- The square m lies strictly between a and b on one row.
pub record IsOnRow (a m b : ℕ) : Type 0 where
  pub here : a % 9 ≡ m % 9
  pub there : b % 9 ≡ m % 9
  pub inside : IsInside (a / 9) (m / 9) (b / 9)

-- The square m lies strictly between a and b on one diagonal.
pub record IsOnDiagonal (a m b : ℕ) : Type 0 where
  pub here : distance (a / 9) (m / 9) ≡ distance (a % 9) (m % 9)
  pub there : distance (a / 9) (b / 9) ≡ distance (a % 9) (b % 9)
  pub files : IsInside (a / 9) (m / 9) (b / 9)
  pub rows : IsInside (a % 9) (m % 9) (b % 9)

-- The square m lies strictly between a and b, on one file, row or diagonal. Nothing lies between a
-- knight and a square that it jumps to.
abbrev pub IsBetween : ℕ → ℕ → ℕ → Type 0
IsBetween a m b = IsOnFile a m b ⊎ IsOnRow a m b ⊎ IsOnDiagonal a m b

-- Whether squares so many files and rows apart share a file, a row or a diagonal, and aren't one.
abbrev pub on_line : ℕ → ℕ → Bool
on_line aside along = ((aside == 0) || (along == 0) || (aside == along)) && nat_le 1 (aside + along)

-- Whether squares so many files and rows apart are neighbours, or a file and two rows apart, as a
-- knight jumps.
abbrev pub in_reach : ℕ → ℕ → Bool
in_reach aside along = (nat_le aside 1 && nat_le along 1 && nat_le 1 (aside + along)) || ((aside == 1) && (along == 2))

-- The two squares share a file, a row or a diagonal, and aren't one.
abbrev pub share_line : ℕ → ℕ → Bool
share_line a b = on_line (distance (a / 9) (b / 9)) (distance (a % 9) (b % 9))

-- The two squares are neighbours, or a file and two rows apart.
abbrev pub are_near : ℕ → ℕ → Bool
are_near a b = in_reach (distance (a / 9) (b / 9)) (distance (a % 9) (b % 9))

-- A law: where a piece steps or jumps from one square of the board to another, these are near.
abbrev pub StepsAreNear : Type 0
StepsAreNear = (piece : Piece) (from to : ℕ) → from < 81 → to < 81 → IsTrue (goes_by_step piece from to) → IsTrue (are_near from to)

-- A law: where a piece slides from one square of an empty board to another, these share a line.
abbrev pub SlidesShareLine : Type 0
SlidesShareLine = (piece : Piece) (from to : ℕ) → from < 81 → to < 81 → IsTrue (goes_by_slide piece from to) → IsTrue (share_line from to)
