use Rattle.std.proofs.Common.{◌≡◌, ◌++◌, take, drop, map}
use Rattle.visit_log.specs.Round.{staled}
use Rattle.visit_frame.proofs.telling.stale.Given as goal

abbrev pub invariant-loop-child : goal.invariant-loop-child
invariant-loop-child l = l.children ≡ map staled (take l.child-index l.initial.children) ++ drop l.child-index l.initial.children
