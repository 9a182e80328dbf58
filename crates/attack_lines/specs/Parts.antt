-- What the sets are made of: it serves private functions alone.
use Rattle.std.specs.Prelude.{◌≡◌, ℕ, List, Option, is_some, IsTrue}
use Rattle.bit_boards.specs.declared.piece.Side.{Side}
use Rattle.bit_boards.specs.declared.piece.Side.TheVariants.{Black, White}
use Rattle.bit_boards.specs.declared.piece.Piece.{Piece}
use Rattle.bit_boards.specs.declared.mask.Mask.{Mask}
use Rattle.bit_boards.specs.declared.direction.Direction.{Direction}
use Rattle.bit_boards.specs.declared.direction.Direction.TheVariants.{Up, Down}
use Rattle.bit_boards.specs.Mask.{holds, Holds}
use Rattle.board_core.specs.Board.{piece_at}
use Rattle.bit_boards.specs.Movement.{goes_by_slide}
use Rattle.shogi_rules.specs.Rules.{IsClear, AttacksFrom}
use Rattle.attack_lines.specs.Lines.{AttacksWithout}

-- Where the side's lances go.
abbrev pub ahead_of : Side → Direction
ahead_of Black = Up
ahead_of White = Down

-- The set has just the squares on which pieces stand.
abbrev pub AreOccupied : Mask → List (Option Piece) → Type 0
AreOccupied mask cells = (square : ℕ) → holds mask square ≡ is_some (piece_at cells square)

-- The piece slides to the one square from the other, with nothing between.
pub record SlidesTo (cells : List (Option Piece)) (piece : Piece) (from to : ℕ) : Type 0 where
  pub slide : IsTrue (goes_by_slide piece from to)
  pub clear : IsClear cells from to

-- The set has the square and no other.
pub record IsOnly (mask : Mask) (square : ℕ) : Type 0 where
  pub has : Holds mask square
  pub others : (s : ℕ) → Holds mask s → s ≡ square

-- What stands on the square alone keeps the side's piece on the square `from` from reaching the
-- square `to`.
pub record KeepsOff (cells : List (Option Piece)) (side : Side) (square from to : ℕ) : Type 0 where
  pub lifted : AttacksWithout cells side square from to
  pub blocked : ¬ AttacksFrom cells side from to
