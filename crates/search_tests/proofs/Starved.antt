-- A port suits a worker that was starved as it did before.
use Rattle.std.proofs.Common.{◌≡◌, false, ◌∙◌, List, [], ◌∷◌, inr, arith, ap, refl}
use Rattle.visit_log.specs.declared.words.WorkEnd.{WorkEnd}
use Rattle.visit_log.specs.declared.words.WorkEnd.TheVariants.{NoMemory}
use Rattle.visit_log.specs.declared.parts.Stage.TheVariants.{Winding}
use Rattle.visit_log.specs.Frame.{FrameView}
use Rattle.visit_log.specs.Machine.{State, starve, starve_winding}
use Rattle.visit_log.specs.Run.{WorkerView}
use Rattle.visit_log.specs.Laws.{IsLeftAlone}
use Rattle.visit_log.proofs.Offered.{winds_starved}
use Rattle.worker_core.specs.Port.{Book, entering, Suits}

still_winds : (s : State) (end : WorkEnd) (frames : List FrameView) → (last : WorkEnd) × ((starve_winding s end frames).stage ≡ Winding last)
still_winds s end [] = (end, refl)
still_winds s end (f ∷ fs) = (NoMemory, refl)

pub starved_suits : (v w : WorkerView) (book : Book) → Suits v book → w ≡ record { task = v.task; state = starve v.state; waiting = false } → IsLeftAlone v.state w.state
    → Suits w book
starved_suits v w book suits is alone =
    let winds = winds_starved v.state v.state.stage in
    let stage : w.state.stage ≡ Winding winds.0 = ap (λ (z : WorkerView). z.state.stage) is ∙ winds.1 in
    let none : entering w.state.stage ≡ 0 = ap entering stage in
    record {
      problem = ap (λ (z : WorkerView). z.task.problem) is ∙ suits.problem;
      going = inr (winds.0, stage);
      held = λ word. let own = alone.slots book.words word in let h = suits.held word in omega (arith, own, h);
      some = (let own = alone.size in let some = suits.some in omega (arith, own, some));
      visits = (let own = alone.visits in let given = suits.visits in omega (arith, own, given));
      size = (let size = suits.size in omega (arith, none, size));
      most = suits.most;
    }
