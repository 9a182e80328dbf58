-- The eight directions, and what is seen in each.
use Rattle.std.specs.Prelude.{◌≡◌, ◌<◌, ◌≤◌, ◌+◌, ◌/◌, ◌%◌, ℕ, Bool, true, false}
use Rattle.bit_boards.specs.declared.direction.Direction.{Direction}
use Rattle.bit_boards.specs.declared.direction.Direction.TheVariants.{Up, UpRight, Right, DownRight, Down, DownLeft, Left, UpLeft}
use Rattle.bit_boards.specs.declared.mask.Mask.{Mask}
use Rattle.bit_boards.specs.Mask.{Holds}
use Rattle.bit_boards.specs.Movement.{IsBetween}

-- How one step in a direction changes the number of the file or of the row: one less, none, or one
-- more.
pub data Change : Type 0 where
  less : Change
  same : Change
  more : Change

-- How a step changes the file: files count from right to left, as Black sees the board.
abbrev pub file_change : Direction → Change
file_change Up = same
file_change UpRight = less
file_change Right = less
file_change DownRight = less
file_change Down = same
file_change DownLeft = more
file_change Left = more
file_change UpLeft = more

-- How a step changes the row: rows count from top to bottom.
abbrev pub row_change : Direction → Change
row_change Up = less
row_change UpRight = less
row_change Right = same
row_change DownRight = more
row_change Down = more
row_change DownLeft = more
row_change Left = same
row_change UpLeft = less

-- The directions in their order.
abbrev pub place_of : Direction → ℕ
place_of Up = 0
place_of UpRight = 1
place_of Right = 2
place_of DownRight = 3
place_of Down = 4
place_of DownLeft = 5
place_of Left = 6
place_of UpLeft = 7

-- The direction back.
abbrev pub opposite : Direction → Direction
opposite Up = Down
opposite UpRight = DownLeft
opposite Right = Left
opposite DownRight = UpLeft
opposite Down = Up
opposite DownLeft = UpRight
opposite Left = Right
opposite UpLeft = DownRight

-- Whether the squares in the direction have higher numbers.
abbrev pub rises : Direction → Bool
rises Up = false
rises UpRight = false
rises Right = false
rises DownRight = false
rises Down = true
rises DownLeft = true
rises Left = true
rises UpLeft = true

-- The number y is what x becomes by so many changes.
abbrev pub IsChanged : Change → ℕ → ℕ → ℕ → Type 0
IsChanged less steps x y = y + steps ≡ x
IsChanged same steps x y = y ≡ x
IsChanged more steps x y = y ≡ x + steps

-- The square `to` lies so many steps in the direction from the square `from`, one at least.
pub record IsAhead (direction : Direction) (from steps to : ℕ) : Type 0 where
  pub away : 1 ≤ steps
  pub file : IsChanged (file_change direction) steps (from / 9) (to / 9)
  pub row : IsChanged (row_change direction) steps (from % 9) (to % 9)

-- The square `to` of the board lies in the direction from the square `from`.
abbrev pub LiesToward : Direction → ℕ → ℕ → Type 0
LiesToward direction from to = (to < 81) × (steps : ℕ) × IsAhead direction from steps to

-- From `from` the square `to` is seen in the direction: it lies there, and no occupied square lies
-- between.
pub record IsSeen (occupied : Mask) (direction : Direction) (from to : ℕ) : Type 0 where
  pub toward : LiesToward direction from to
  pub clear : (square : ℕ) → IsBetween from square to → Holds occupied square → ⊥
