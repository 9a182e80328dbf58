use Rattle.std.proofs.Common.{◌<◌, ℕ}
use Rattle.shogi_rules.specs.Scan.{GoesFrom}
use Rattle.shogi_rules.proofs.legality.has_board_move.Given as goal

abbrev pub invariant-loop-number : goal.invariant-loop-number
invariant-loop-number l = (s : ℕ) → s < l.number → ¬ GoesFrom l.position s
