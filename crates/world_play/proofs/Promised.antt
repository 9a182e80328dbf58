-- What follows of a fair world.
use Rattle.std.proofs.Common.{◌≡◌, inl, inr, ℕ, suc, ◌+◌, ◌≤◌, ◌<◌, List, [], ◌∷◌, length, get_or, arith, refl, sym, ap, ◌∙◌, subst, sum_by}
use Rattle.std.specs.Prelude.{Option, Some, None, slice_get}
use Rattle.std.proofs.lemmas.List.Sums.{sum_by-cons}
use Rattle.std.proofs.lemmas.Bool.{cases_lt}
use Rattle.std.proofs.lemmas.Option.{slice_get_within, slice_get_read, same_Some}
use Rattle.table_shard.specs.Spot.{word_of}
use Rattle.visit_log.specs.declared.parts.Stage.{Stage}
use Rattle.visit_log.specs.declared.parts.Stage.TheVariants.{Polling, Drawing, Entering, Looking, Claiming, Leaving, Posting, Winding}
use Rattle.visit_log.specs.declared.words.WorkEnd.{WorkEnd}
use Rattle.visit_log.specs.declared.words.WorkEnd.TheVariants.{Posted, Spent, NoRoom, TooHigh, NoMemory, Stopped}
use Rattle.visit_log.specs.Visit.{Exchange, IsVisitLog}
use Rattle.visit_log.specs.Frame.{FrameView}
use Rattle.visit_log.specs.Machine.{end_of, end_at}
use Rattle.visit_log.specs.Run.{WorkerView}
use Rattle.visit_log.specs.Counts.{own_slots, own_size}
use Rattle.visit_log.specs.Laws.{WorkersAreSound, WorkersAreCounted, LogsAreWhole, EndsHaveCauses}
use Rattle.lone_port.specs.World.{World}
use Rattle.world_play.specs.Fair.{IsFair, IsToldOf}
use Rattle.world_play.specs.Promises.{HoldsWhatIsEntered, AreSoundWorkers, AreToldOf, HasEnded, AllHaveEnded, IsOver, IsLeft}

-- 1. WHAT IS ENTERED IS HELD.

pub holds : (world : World) → IsFair world → HoldsWhatIsEntered world
holds world fair key slot some = fair.entered key slot some

-- 2. THE WORKERS.

pub sound_workers : WorkersAreSound → WorkersAreCounted → (world : World) → IsFair world → AreSoundWorkers world.workers
sound_workers sound counted world fair place worker e =
    let m = fair.members place worker e in
    (sound worker.task m.leads.happenings worker.state m.problem m.leads.runs, counted worker.task m.leads.happenings worker.state m.leads.runs)

pub told_of : LogsAreWhole → EndsHaveCauses → (world : World) → IsFair world → AreToldOf world
told_of whole causes world fair place worker end there ended =
    let m = fair.members place worker there in
    let v = whole worker.task m.leads.happenings worker.state end m.leads.runs ended in
    m.told end (causes worker.task m.log end (subst (λ (log : List Exchange). IsVisitLog worker.task log end) m.leads.logged v))

-- 3. WHEN ALL HAVE ENDED.

first_there : (ws : List WorkerView) → 0 < length ws → (w : WorkerView) × (slice_get ws 0 ≡ Some w)
first_there [] some = absurd (omega (arith, some))
first_there (w ∷ ws) some = (w, refl)

over_by : (world : World) (worker : WorkerView) (end : WorkEnd) → slice_get world.workers 0 ≡ Some worker → end_of worker.state ≡ Some end
    → IsToldOf world.port.desk end → IsOver world
over_by world worker Posted there ended told = inl told
over_by world worker Spent there ended told = inr (inl told)
over_by world worker NoRoom there ended told = inr (inr (inl told))
over_by world worker TooHigh there ended told = inr (inr (inr (inl (record { place = 0; worker = worker; there = there; ended = ended }))))
over_by world worker NoMemory there ended told = inr (inr (inr (inr (inl (record { place = 0; worker = worker; there = there; ended = ended })))))
over_by world worker Stopped there ended told = inr (inr (inr (inr (inr (record { place = 0; worker = worker; there = there; ended = ended })))))

pub over : LogsAreWhole → EndsHaveCauses → (world : World) → IsFair world → AllHaveEnded world.workers → IsOver world
over whole causes world fair all =
    let w = first_there world.workers fair.some in
    let e = all 0 w.0 w.1 in
    over_by world w.0 e.end w.1 e.ended (told_of whole causes world fair 0 w.0 e.end w.1 e.ended)

ended_empty : (stage : Stage) (fs : List FrameView) (end : WorkEnd) → end_at stage fs ≡ Some end → fs ≡ []
ended_empty stage [] end e = refl
ended_empty (Polling x) (f ∷ fs) end e = absurd (cc)
ended_empty (Drawing x) (f ∷ fs) end e = absurd (cc)
ended_empty Entering (f ∷ fs) end e = absurd (cc)
ended_empty (Looking x) (f ∷ fs) end e = absurd (cc)
ended_empty Claiming (f ∷ fs) end e = absurd (cc)
ended_empty (Leaving x) (f ∷ fs) end e = absurd (cc)
ended_empty (Posting x) (f ∷ fs) end e = absurd (cc)
ended_empty (Winding x) (f ∷ fs) end e = absurd (cc)

-- What a worker that has ended doesn't have, none has.
all_ended : (f : List FrameView → ℕ) → f [] ≡ 0 → (ws : List WorkerView) → AllHaveEnded ws → sum_by (λ (w : WorkerView). f w.state.frames) ws ≡ 0
all_ended f none [] all = refl
all_ended f none (w ∷ ws) all =
    let s = sum_by-cons (λ (v : WorkerView). f v.state.frames) w ws in
    let e = all 0 w refl in
    let z : f w.state.frames ≡ 0 = ap f (ended_empty w.state.stage w.state.frames e.end e.ended) ∙ none in
    let r = all_ended f none ws (λ place v g. all (suc place) v g) in
    omega (arith, s, z, r)

pub left : (world : World) → IsFair world → AllHaveEnded world.workers → IsLeft world
left world fair all = record {
  slots = λ word. fair.held word ∙ all_ended (λ (fs : List FrameView). own_slots (word_of (length world.port.pins)) fs word) refl world.workers all;
  size = fair.size ∙ all_ended own_size refl world.workers all;
}

-- 4. WHETHER ALL HAVE ENDED.

-- One that goes on.
pub not_all_ended : (ws : List WorkerView) (i : ℕ) (w : WorkerView) (result : Option WorkEnd) → i < length ws → w ≡ get_or ws i w → result ≡ end_of w.state → result ≡ None
    → AllHaveEnded ws → ⊥
not_all_ended ws i w result low is ends none all =
    let e = all i w (slice_get_read ws (length ws) i w refl low is) in
    let n : Some e.end ≡ None = sym e.ended ∙ (sym ends ∙ none) in
    absurd (cc)

-- One more that has ended.
pub one_more_ended : (ws : List WorkerView) (i : ℕ) (w : WorkerView) (end : WorkEnd) (result : Option WorkEnd) → i < length ws → w ≡ get_or ws i w → result ≡ end_of w.state → result ≡ Some end
    → ((place : ℕ) → place < i → (v : WorkerView) → slice_get ws place ≡ Some v → HasEnded v)
    → (place : ℕ) → place < i + 1 → (v : WorkerView) → slice_get ws place ≡ Some v → HasEnded v
one_more_ended ws i w end result low is ends some before place within v there =
    elim (cases_lt place i) as (λ _. HasEnded v) [
      | inl less ↦ before place less v there
      | inr more ↦ (
          let same : place ≡ i = omega (arith, within, more) in
          let z : v ≡ w = same_Some v w (sym there ∙ (ap (λ (n : ℕ). slice_get ws n) same ∙ slice_get_read ws (length ws) i w refl low is)) in
          record { end = end; ended = ap (λ (u : WorkerView). end_of u.state) z ∙ (sym ends ∙ some) })
    ]

-- All have.
pub all_have_ended : (ws : List WorkerView) (i : ℕ) → length ws ≤ i → ((place : ℕ) → place < i → (v : WorkerView) → slice_get ws place ≡ Some v → HasEnded v) → AllHaveEnded ws
all_have_ended ws i long before place v there =
    let low = slice_get_within ws place v there in
    before place (omega (arith, low, long)) v there
