use Rattle.std.proofs.Common.{◌≤◌, ◌-◌}
use Rattle.std.specs.Prelude.{None}
use Rattle.wide_check.specs.Stretches.{IsFoundBefore}
use Rattle.wide_check.proofs.wide.first_objection.Given as goal

abbrev pub invariant-loop-from : goal.invariant-loop-from
invariant-loop-from g l = (l.from ≤ l.count) × IsFoundBefore l.hearing l.from None

abbrev pub decreases-loop-from : goal.decreases-loop-from
decreases-loop-from g l = l.count - l.from
