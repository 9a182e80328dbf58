use Rattle.std.proofs.Common.{ap, ◌∙◌}
use Rattle.visit_log.specs.Machine.{asks}
use Rattle.visit_log.specs.Run.{WorkerView}
use Rattle.worker_core.specs.Machine.{is_poll}
use Rattle.worker_core.proofs.Reached.{polls_asks}
use Rattle.worker_core.proofs.worker.Worker.is_polling.Goals as goal

pub returns : goal.returns
returns c = c.is_polling.ensures ∙ polls_asks c.self.inside.core.state ∙ ap (λ (z : WorkerView). is_poll (asks z.state)) c.self.view_is
