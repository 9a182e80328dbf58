use Rattle.std.proofs.Common.{◌≡◌, List, false}
use Rattle.visit_log.specs.Visit.{Exchange}
use Rattle.visit_log.specs.Counts.{to_come}
use Rattle.worker_core.specs.Port.{Suits, KeepsOthers, WentBy}
use Rattle.worker_core.proofs.working.work.Given as goal

abbrev pub invariant-turns : goal.invariant-turns
invariant-turns g l = record {
  idle : l.worker.waiting ≡ false;
  suits : Suits l.worker (g.P.Port.book l.port);
  went : (events : List Exchange) × WentBy g.P.Port.turn l.initial.port l.port l.initial.worker l.worker events;
  others : KeepsOthers l.initial.worker l.worker (g.P.Port.book l.initial.port) (g.P.Port.book l.port);
}

abbrev pub decreases-turns : goal.decreases-turns
decreases-turns g l = to_come l.worker.state
