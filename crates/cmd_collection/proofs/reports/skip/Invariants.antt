use Rattle.std.proofs.Common.{◌≡◌, drop}
use Rattle.cmd_collection.proofs.reports.skip.Given as goal

-- so many lines are skipped so far
abbrev pub invariant-loop : goal.invariant-loop
invariant-loop l = l.lines ≡ drop l.counter l.fn.lines
