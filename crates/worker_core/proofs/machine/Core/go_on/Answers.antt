use Rattle.std.proofs.Common.{sym, subst, refl}
use Rattle.visit_log.specs.declared.parts.Stage.TheVariants.{Looking}
use Rattle.visit_log.specs.Frame.{Task}
use Rattle.visit_log.specs.Machine.{State, Settles, GoesOn}
use Rattle.worker_core.specs.Stack.{HasTop, HasOver}
use Rattle.worker_core.specs.Machine.{CoreView}
use Rattle.worker_core.proofs.Played.{looks_on}
use Rattle.worker_core.proofs.machine.Core.go_on.Goals as goal

pub returns-in-Some-clause-on : goal.returns-in-Some-clause-on
returns-in-Some-clause-on c =
    let place = c.in-Some.place in
    let task = c.args.self.now.task in
    let s : State = c.args.self.now.state in
    let has : HasTop (λ f. (task : Task) → Settles task f (Looking place) f) s.frames =
    subst (λ (z : CoreView). HasTop (λ f. (task : Task) → Settles task f (Looking place) f) z.state.frames) c.self.view_is c.in-Some.ensures in
    subst (λ (t : State). HasOver (λ f fs. GoesOn task s f fs t) s.frames) (sym c.look_at.ensures.state)
    (looks_on s place task s.frames refl has)

pub returns-in-None-clause-on : goal.returns-in-None-clause-on
returns-in-None-clause-on c = c.settle.ensures.on
