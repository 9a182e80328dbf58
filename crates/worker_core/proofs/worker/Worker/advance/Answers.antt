use Rattle.std.proofs.Common.{◌≡◌, ◌<◌, ◌+◌, ◌++◌, ◌∷◌, [], List, true, false, arith, refl, sym, ap, ◌∙◌, subst}
use Rattle.std.specs.Prelude.{Some}
use Rattle.visit_log.specs.Frame.{Task}
use Rattle.visit_log.specs.Visit.{Exchange}
use Rattle.visit_log.specs.Machine.{State, asks, Fits, LeadsTo}
use Rattle.visit_log.specs.Run.{WorkerView, Leads, IsReached, Told}
use Rattle.visit_log.specs.Sound.{IsTask, IsSound}
use Rattle.visit_log.specs.Counts.{own_slots, own_size, enters, leaves, enters_some, leaves_some, to_come}
use Rattle.worker_core.proofs.Reached.{told_leads, told_happens, reached_sound, happens_asked, waits_for}
use Rattle.worker_core.proofs.worker.Worker.advance.Goals as goal

pub invariant_of-self : goal.invariant_of-self
invariant_of-self c =
    let i = c.self.invariant in
    let task : Task = c.self.inside.core.task in
    let m : State = c.self.inside.core.state in
    let w : WorkerView = record { task = task; state = m; waiting = c.self.inside.waiting } in
    let log : List Exchange = i.reached.0 in
    let reached : IsReached w log = i.reached.1 in
    let waiting : c.self.inside.waiting ≡ true = ap (λ (z : WorkerView). z.waiting) c.self.view_is ∙ c.requires.waiting in
    let fits : Fits task m c.args.answer = subst (λ (z : WorkerView). Fits z.task z.state c.args.answer) (sym c.self.view_is) c.requires.fits in
    let u : State = c.advance.new.self.state in
    let leads : Leads task (log ++ (asks reached.state, Some c.args.answer) ∷ []) u =
    told_leads task log reached.state m u c.args.answer reached.leads (waits_for w log reached waiting) fits c.advance.ensures.leads in
    record {
      reached = subst (λ (z : Task). (l : List Exchange) × IsReached (record { task = z; state = u; waiting = false }) l) (sym c.advance.ensures.task)
          (log ++ (asks reached.state, Some c.args.answer) ∷ [], record { state = u; leads = leads; now = refl });
      task = subst IsTask (sym c.advance.ensures.task) i.task;
      copy = λ _. c.advance.ensures.copy;
    }

pub returns-clause-log : goal.returns-clause-log
returns-clause-log c = λ log s leads is.
    let u : State = c.advance.new.self.state in
    let to : LeadsTo c.args.self.now.task c.args.self.now.state c.args.answer u =
    subst (λ (z : WorkerView). LeadsTo z.task z.state c.args.answer u) c.self.view_is c.advance.ensures.leads in
    told_leads c.args.self.now.task log s c.args.self.now.state u c.args.answer leads is c.requires.fits to

pub returns-clause-happens : goal.returns-clause-happens
returns-clause-happens c = λ s is.
    let u : State = c.advance.new.self.state in
    let to : LeadsTo c.args.self.now.task c.args.self.now.state c.args.answer u =
    subst (λ (z : WorkerView). LeadsTo z.task z.state c.args.answer u) c.self.view_is c.advance.ensures.leads in
    told_happens c.args.self.now.task s c.args.self.now.state u c.args.answer is c.requires.fits to

pub returns-clause-slots : goal.returns-clause-slots
returns-clause-slots c = λ words word.
    let i = c.self.invariant in
    let task : Task = c.self.inside.core.task in
    let m : State = c.self.inside.core.state in
    let u : State = c.advance.new.self.state in
    let fits : Fits task m c.args.answer = subst (λ (z : WorkerView). Fits z.task z.state c.args.answer) (sym c.self.view_is) c.requires.fits in
    let sound : IsSound task m = reached_sound task i.reached.0 i.reached.1.state m c.self.inside.waiting c.sound_laws.ensures.reached i.task i.reached.1.leads i.reached.1.now in
    subst (λ (z : WorkerView). own_slots words u.frames word + leaves words (asks z.state, Some c.args.answer) word ≡ own_slots words z.state.frames word + enters words (asks z.state, Some c.args.answer) word) c.self.view_is
    (c.count_laws.ensures.slots words task m u c.args.answer word sound fits c.advance.ensures.leads)

pub returns-clause-sizes : goal.returns-clause-sizes
returns-clause-sizes c =
    let i = c.self.invariant in
    let task : Task = c.self.inside.core.task in
    let m : State = c.self.inside.core.state in
    let u : State = c.advance.new.self.state in
    let fits : Fits task m c.args.answer = subst (λ (z : WorkerView). Fits z.task z.state c.args.answer) (sym c.self.view_is) c.requires.fits in
    let sound : IsSound task m = reached_sound task i.reached.0 i.reached.1.state m c.self.inside.waiting c.sound_laws.ensures.reached i.task i.reached.1.leads i.reached.1.now in
    subst (λ (z : WorkerView). own_size u.frames + leaves_some (asks z.state, Some c.args.answer) ≡ own_size z.state.frames + enters_some (asks z.state, Some c.args.answer)) c.self.view_is
    (c.count_laws.ensures.sizes task m u c.args.answer sound fits c.advance.ensures.leads)

pub returns-clause-less : goal.returns-clause-less
returns-clause-less c =
    let i = c.self.invariant in
    let task : Task = c.self.inside.core.task in
    let m : State = c.self.inside.core.state in
    let u : State = c.advance.new.self.state in
    let fits : Fits task m c.args.answer = subst (λ (z : WorkerView). Fits z.task z.state c.args.answer) (sym c.self.view_is) c.requires.fits in
    let sound : IsSound task m = reached_sound task i.reached.0 i.reached.1.state m c.self.inside.waiting c.sound_laws.ensures.reached i.task i.reached.1.leads i.reached.1.now in
    subst (λ (z : WorkerView). to_come u < to_come z.state) c.self.view_is
    (c.count_laws.ensures.less task m u (Told (asks m) c.args.answer) i.task sound (happens_asked task m u c.args.answer fits c.advance.ensures.leads) (omega arith))
