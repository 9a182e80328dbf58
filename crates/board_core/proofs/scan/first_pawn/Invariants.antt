use Rattle.std.proofs.Common.{◌≡◌, ◌<◌, ◌≤◌, ℕ, false}
use Rattle.board_core.specs.Board.{piece_at, is_pawn_of}
use Rattle.board_core.proofs.scan.first_pawn.Given as goal

abbrev pub invariant-loop-square : goal.invariant-loop-square
invariant-loop-square l = (s : ℕ) → s < l.square → l.from ≤ s → is_pawn_of l.side (piece_at l.cells s) ≡ false
