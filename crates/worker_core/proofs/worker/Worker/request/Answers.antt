use Rattle.std.proofs.Common.{◌≡◌, false, sym, ap, ◌∙◌}
use Rattle.visit_log.specs.Frame.{Task}
use Rattle.visit_log.specs.Machine.{State, end_of}
use Rattle.visit_log.specs.Run.{WorkerView, Leads}
use Rattle.worker_core.proofs.Reached.{idle_leads}
use Rattle.worker_core.proofs.worker.Worker.request.Goals as goal

pub returns-clause-ends : goal.returns-clause-ends
returns-clause-ends c = λ end.
    let i = c.self.invariant in
    let task : Task = c.self.inside.core.task in
    let m : State = c.self.inside.core.state in
    let w : WorkerView = record { task = task; state = m; waiting = c.self.inside.waiting } in
    let idle : c.self.inside.waiting ≡ false = ap (λ (z : WorkerView). z.waiting) c.self.view_is ∙ c.requires in
    let leads : Leads task i.reached.0 m = idle_leads w i.reached.0 idle i.reached.1 in
    let same = c.sound_laws.ensures.ends task leads.happenings m end i.task leads.runs in
    let now : m ≡ c.args.self.now.state = ap (λ (z : WorkerView). z.state) c.self.view_is in (
      λ is. ap end_of (sym now) ∙ same.0 (sym c.ask.ensures.request ∙ is),
      λ is. c.ask.ensures.request ∙ same.1 (ap end_of now ∙ is),
    )
