-- Attacks as if what stands on a square were lifted, what stops them, and what is seen along lines.
use Rattle.std.specs.Prelude.{◌≡◌, ◌<◌, ◌&&◌, ◌==◌, ◌⊎◌, ◌↔◌, ℕ, List, Option, Bool, false, not, is_some, IsTrue, IsSomeAnd}
use Rattle.bit_boards.specs.declared.piece.Side.{Side}
use Rattle.bit_boards.specs.declared.piece.Piece.{Piece}
use Rattle.bit_boards.specs.declared.mask.Mask.{Mask}
use Rattle.bit_boards.specs.declared.direction.Direction.{Direction}
use Rattle.bit_boards.specs.declared.direction.Direction.TheVariants.{Up, UpRight, Right, DownRight, Down, DownLeft, Left, UpLeft}
use Rattle.bit_boards.specs.Mask.{Holds}
use Rattle.bit_boards.specs.Movement.{fits, IsBetween}
use Rattle.bit_boards.specs.Direction.{LiesToward}
use Rattle.board_core.specs.Board.{piece_at}
use Rattle.shogi_rules.specs.Rules.{IsClear, AttacksFrom}
use Rattle.attack_lines.specs.declared.sight.Sight.{Sight}

-- Whether a piece stands on the square, once what stands on another square is lifted.
abbrev pub is_occupied_without : List (Option Piece) → ℕ → ℕ → Bool
is_occupied_without cells lifted square = is_some (piece_at cells square) && not (square == lifted)

-- As if those squares were occupied of which the test holds: a piece of the side, on the one
-- square, reaches the other.
abbrev pub AttacksOver : (ℕ → Bool) → List (Option Piece) → Side → ℕ → ℕ → Type 0
AttacksOver occupied cells side from to =
    IsSomeAnd (piece_at cells from) (λ piece. (piece.side ≡ side) × (IsTrue (fits piece from to) × ((m : ℕ) → IsBetween from m to → occupied m ≡ false)))

-- Once what stands on a square is lifted, a piece of the side, on the one square, reaches the
-- other; the lifted piece itself counts as before.
abbrev pub AttacksWithout : List (Option Piece) → Side → ℕ → ℕ → ℕ → Type 0
AttacksWithout cells side lifted from to = AttacksOver (is_occupied_without cells lifted) cells side from to

-- Once what stands on a square is lifted, some piece of the side, the lifted one too, reaches the
-- square `to`.
abbrev pub IsAttackedWithout : List (Option Piece) → Side → ℕ → ℕ → Type 0
IsAttackedWithout cells side lifted to = (from : ℕ) × (from < 81) × AttacksWithout cells side lifted from to

-- What stands on the square alone keeps a piece of the side from reaching the square `to`.
pub record IsShield (cells : List (Option Piece)) (side : Side) (square to : ℕ) : Type 0 where
  pub from : ℕ
  pub on_board : from < 81
  pub lifted : AttacksWithout cells side square from to
  pub blocked : ¬ AttacksFrom cells side from to

-- Whoever attacks the square `to` from one of the squares is stopped by a piece that comes to this
-- one: it takes him, or stands between.
abbrev pub StopsAll : Mask → ℕ → ℕ → Type 0
StopsAll attackers to square = (from : ℕ) → Holds attackers from → (square ≡ from) ⊎ IsBetween from square to

-- The square `to` lies in the direction from the other, and no piece stands between.
pub record IsSeenOver (cells : List (Option Piece)) (direction : Direction) (from to : ℕ) : Type 0 where
  pub toward : LiesToward direction from to
  pub clear : IsClear cells from to

-- What is seen from the square along its file and row.
abbrev pub IsSeenStraight : List (Option Piece) → ℕ → ℕ → Type 0
IsSeenStraight cells from to =
    IsSeenOver cells Up from to ⊎ (IsSeenOver cells Right from to ⊎ (IsSeenOver cells Down from to ⊎ IsSeenOver cells Left from to))

-- What is seen from the square along its diagonals.
abbrev pub IsSeenDiagonal : List (Option Piece) → ℕ → ℕ → Type 0
IsSeenDiagonal cells from to =
    IsSeenOver cells UpRight from to ⊎ (IsSeenOver cells DownRight from to ⊎ (IsSeenOver cells DownLeft from to ⊎ IsSeenOver cells UpLeft from to))

-- The sight holds just what is seen from its square along the lines of its square, each up to and
-- with the first piece.
pub record IsSightOf (cells : List (Option Piece)) (sight : Sight) : Type 0 where
  pub straight : (to : ℕ) → Holds sight.straight to ↔ IsSeenStraight cells sight.square.number to
  pub diagonal : (to : ℕ) → Holds sight.diagonal to ↔ IsSeenDiagonal cells sight.square.number to
