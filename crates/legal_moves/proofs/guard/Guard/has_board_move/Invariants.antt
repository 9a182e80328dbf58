use Rattle.std.proofs.Common.{◌≡◌, ◌<◌, ℕ, false}
use Rattle.bit_boards.specs.Mask.{holds, count}
use Rattle.legal_moves.specs.Steps.{MovesFrom}
use Rattle.legal_moves.proofs.guard.Guard.has_board_move.Given as goal

abbrev pub invariant-loop-from : goal.invariant-loop-from
invariant-loop-from l = (from : ℕ) → from < 81 → holds l.left from ≡ false → ¬ MovesFrom l.position from

abbrev pub decreases-loop-from : goal.decreases-loop-from
decreases-loop-from l = count l.left
