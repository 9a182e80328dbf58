use Rattle.std.proofs.Common.{◌≡◌, ap, refl, subst, sym, ◌∙◌}
use Rattle.visit_log.specs.declared.parts.Stage.{Stage}
use Rattle.visit_log.specs.declared.parts.Stage.TheVariants.{Leaving}
use Rattle.visit_log.specs.declared.words.Reply.TheVariants.{Leave as LeftIt}
use Rattle.visit_log.specs.Machine.{State, LeadsAt, LeadsTo, Returns, rest_of}
use Rattle.worker_core.specs.Machine.{CoreView}
use Rattle.worker_core.proofs.Steps.{returns_from}
use Rattle.worker_core.proofs.machine.Core.leave.Goals as goal

pub returns-in-Leaving : goal.returns-in-Leaving
returns-in-Leaving c =
    let s : State = record { stage = c.self.inside.stage; frames = c.self.inside.stack.frames; visits = c.self.inside.visits; claims = c.self.inside.claims } in
    let u : State = record { stage = c.replace.new.dest; frames = c.self.inside.stack.frames; visits = c.self.inside.visits; claims = c.self.inside.claims } in
    let t : State = c.left.new.self.state in
    let is : c.self.inside.stage ≡ Leaving c.in-Leaving.left = sym c.replace.ensures.value ∙ c.in-Leaving.is in
    let back : Returns c.self.inside.stack.task s (rest_of c.self.inside.stack.frames) c.in-Leaving.left t =
    returns_from c.self.inside.stack.task s u t (rest_of c.self.inside.stack.frames) c.in-Leaving.left refl refl c.left.ensures.leads in
    let leads : LeadsAt c.self.inside.stack.task s c.self.inside.stage LeftIt t =
    subst (λ (st : Stage). LeadsAt c.self.inside.stack.task s st LeftIt t) (sym is) back in
    record {
      task = c.left.ensures.task ∙ ap (λ (z : CoreView). z.task) c.self.view_is;
      leads = subst (λ (z : CoreView). LeadsTo z.task z.state LeftIt t) c.self.view_is leads;
    }
