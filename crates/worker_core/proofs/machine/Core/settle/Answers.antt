use Rattle.std.proofs.Common.{refl, subst}
use Rattle.visit_log.specs.Machine.{State, GoesOn}
use Rattle.worker_core.specs.Stack.{HasOver}
use Rattle.worker_core.specs.Machine.{CoreView}
use Rattle.worker_core.proofs.Steps.{goes_on}
use Rattle.worker_core.proofs.machine.Core.settle.Goals as goal

pub returns-clause-on : goal.returns-clause-on
returns-clause-on c =
    let s : State = record { stage = c.self.inside.stage; frames = c.self.inside.stack.frames; visits = c.self.inside.visits; claims = c.self.inside.claims } in
    let t : State = record { stage = c.settle.result; frames = c.settle.new.self.frames; visits = c.self.inside.visits; claims = c.self.inside.claims } in
    subst (λ (z : CoreView). HasOver (λ f fs. GoesOn z.task z.state f fs t) z.state.frames) c.self.view_is
    (goes_on c.self.inside.stack.task s t c.self.inside.stack.frames c.settle.ensures.settles refl refl)
