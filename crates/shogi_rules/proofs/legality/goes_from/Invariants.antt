use Rattle.std.proofs.Common.{◌<◌, ℕ}
use Rattle.shogi_rules.specs.Scan.{GoesTo}
use Rattle.shogi_rules.proofs.legality.goes_from.Given as goal

abbrev pub invariant-loop-number : goal.invariant-loop-number
invariant-loop-number l = (t : ℕ) → t < l.number → ¬ GoesTo l.position l.from.number t
