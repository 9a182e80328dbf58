use Rattle.std.proofs.Common.{sym, subst}
use Rattle.visit_log.specs.Run.{WorkerView}
use Rattle.worker_core.specs.Port.{Suits}
use Rattle.lone_port.specs.Lone.{book_of}
use Rattle.search_tests.proofs.one_worker.cut.Goals as goal

pub work-end-requires-clause-suits : goal.work-end-requires-clause-suits
work-end-requires-clause-suits c =
    subst (λ (w : WorkerView). Suits w (book_of c.in_ok-port.port.port)) (sym c.make-worker.ensures) (c.in_ok-port.ensures.suits 1)
