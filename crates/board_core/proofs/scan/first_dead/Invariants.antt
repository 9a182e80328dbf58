use Rattle.std.proofs.Common.{◌≡◌, ◌<◌, ℕ, false}
use Rattle.bit_boards.specs.Piece.{is_dead}
use Rattle.board_core.specs.Board.{piece_at}
use Rattle.board_core.proofs.scan.first_dead.Given as goal

abbrev pub invariant-loop-number : goal.invariant-loop-number
invariant-loop-number l = (s : ℕ) → s < l.number → is_dead s (piece_at l.cells s) ≡ false
