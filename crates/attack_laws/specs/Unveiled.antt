-- When a move opens a line to a king.
use Rattle.std.specs.Prelude.{◌<◌, ℕ, List, Option}
use Rattle.bit_boards.specs.declared.piece.Side.{Side}
use Rattle.bit_boards.specs.declared.piece.Piece.{Piece}
use Rattle.bit_boards.specs.Movement.{IsBetween}
use Rattle.attack_lines.specs.Lines.{AttacksWithout}

-- Once what stands on the square `lifted` has gone to the square `to`, a piece of the side reaches
-- the square `king`: it does so as soon as `lifted` is passed over, and `to` doesn't lie between.
pub record IsUnveiled (cells : List (Option Piece)) (side : Side) (lifted to king : ℕ) : Type 0 where
  pub from : ℕ
  pub on_board : from < 81
  pub attacks : AttacksWithout cells side lifted from king
  pub aside : ¬ IsBetween from to king
