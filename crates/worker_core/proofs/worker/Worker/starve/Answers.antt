use Rattle.std.proofs.Common.{◌≡◌, ◌++◌, ◌∷◌, [], List, false, refl, sym, ap, ◌∙◌, subst}
use Rattle.std.specs.Prelude.{None}
use Rattle.visit_log.specs.Frame.{Task}
use Rattle.visit_log.specs.Visit.{Exchange}
use Rattle.visit_log.specs.Machine.{State, asks, starve}
use Rattle.visit_log.specs.Run.{WorkerView, Leads, IsReached}
use Rattle.visit_log.specs.Sound.{IsTask}
use Rattle.worker_core.specs.Machine.{IsCopy}
use Rattle.worker_core.proofs.Reached.{starved_leads, dark_leads, starved_copy}
use Rattle.worker_core.proofs.worker.Worker.starve.Goals as goal

pub invariant_of-self : goal.invariant_of-self
invariant_of-self c =
    let i = c.self.invariant in
    let task : Task = c.self.inside.core.task in
    let m : State = c.self.inside.core.state in
    let u : State = c.starve.new.self.state in
    let leads : Leads task i.reached.0 u =
    subst (Leads task i.reached.0) (sym c.starve.ensures.state) (starved_leads task i.reached.0 i.reached.1.state m c.self.inside.waiting i.reached.1.leads i.reached.1.now) in
    record {
      reached = subst (λ (z : Task). (l : List Exchange) × IsReached (record { task = z; state = u; waiting = false }) l) (sym c.starve.ensures.task)
          (i.reached.0, record { state = u; leads = leads; now = refl });
      task = subst IsTask (sym c.starve.ensures.task) i.task;
      copy = λ _. subst (λ (z : State). IsCopy z.stage c.self.inside.copy) (sym c.starve.ensures.state) (starved_copy m c.self.inside.copy);
    }

pub returns-clause-log : goal.returns-clause-log
returns-clause-log c = λ log s leads is.
    let now : c.starve.new.self.state ≡ starve c.args.self.now.state = c.starve.ensures.state ∙ ap (λ (z : WorkerView). starve z.state) c.self.view_is in
    subst (Leads c.args.self.now.task log) (sym now) (starved_leads c.args.self.now.task log s c.args.self.now.state c.args.self.now.waiting leads is)

pub returns-clause-dark : goal.returns-clause-dark
returns-clause-dark c = λ log s leads is looking.
    let now : c.starve.new.self.state ≡ starve c.args.self.now.state = c.starve.ensures.state ∙ ap (λ (z : WorkerView). starve z.state) c.self.view_is in
    subst (Leads c.args.self.now.task (log ++ (asks s, None) ∷ [])) (sym now) (dark_leads c.args.self.now.task log s c.args.self.now.state leads is looking)
