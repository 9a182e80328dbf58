use Rattle.std.proofs.Common.{◌≡◌, List, false, length}
use Rattle.visit_log.specs.Visit.{Exchange}
use Rattle.worker_core.specs.Port.{Suits, KeepsOthers, WentBy}
use Rattle.worker_core.proofs.working.work_until.Given as goal

abbrev pub invariant-turns : goal.invariant-turns
invariant-turns g l = record {
  idle : l.worker.waiting ≡ false;
  suits : Suits l.worker (g.P.Port.book l.port);
  went : (events : List Exchange) × WentBy g.P.Port.turn l.initial.port l.port l.initial.worker l.worker events × (length events ≡ l.counter);
  others : KeepsOthers l.initial.worker l.worker (g.P.Port.book l.initial.port) (g.P.Port.book l.port);
}
