use Rattle.std.proofs.Common.{◌≡◌, ◌<◌, ℕ, length}
use Rattle.board_core.specs.Board.{piece_at}
use Rattle.board_core.specs.Code.{cells_of}
use Rattle.board_core.proofs.coding.codes_of.Given as goal

abbrev pub invariant-loop-square : goal.invariant-loop-square
invariant-loop-square l = (length l.codes ≡ 81) × ((s : ℕ) → s < l.square → piece_at (cells_of l.codes) s ≡ piece_at l.cells s)
