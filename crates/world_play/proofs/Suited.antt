-- The table and the desk of a fair world suit each of its workers.
use Rattle.std.proofs.Common.{◌≡◌, inl, ℕ, zero, suc, ◌+◌, ◌≤◌, List, [], ◌∷◌, length, arith, refl, ap, false, sum_by}
use Rattle.std.specs.Prelude.{Option, Some, None, slice_get}
use Rattle.std.proofs.lemmas.List.Sums.{sum_by-cons}
use Rattle.std.proofs.lemmas.Option.{same_Some}
use Rattle.notes.specs.declared.words.Kept.{Kept}
use Rattle.notes.specs.declared.words.Kept.TheVariants.{Slot, Unkept}
use Rattle.table_shard.specs.Spot.{word_of}
use Rattle.unit_desk.specs.Desk.{IsDesk}
use Rattle.visit_log.specs.declared.parts.Stage.{Stage}
use Rattle.visit_log.specs.declared.parts.Stage.TheVariants.{Polling, Drawing, Entering, Looking, Claiming, Leaving, Posting, Winding}
use Rattle.visit_log.specs.Frame.{Task, FrameView}
use Rattle.visit_log.specs.Run.{WorkerView}
use Rattle.visit_log.specs.Sound.{IsSoundAt}
use Rattle.visit_log.specs.Counts.{own_slots, own_size, slots_in}
use Rattle.visit_log.specs.Laws.{WorkersAreSound, WorkersAreCounted}
use Rattle.visit_log.proofs.Offered.{size_length}
use Rattle.worker_core.specs.Port.{Suits, entering}
use Rattle.lone_port.specs.Lone.{book_of, opened}
use Rattle.lone_port.specs.World.{World}
use Rattle.world_play.specs.Fair.{IsFair}

-- 1. SUMS.

-- What one has is no more than what all have.
pub one_within : (f : WorkerView → ℕ) (ws : List WorkerView) (i : ℕ) (w : WorkerView) → slice_get ws i ≡ Some w → f w ≤ sum_by f ws
one_within f [] i w e = absurd (cc)
one_within f (x ∷ xs) zero w e =
    let s = sum_by-cons f x xs in
    let same : f x ≡ f w = ap f (same_Some x w e) in
    omega (arith, s, same)
one_within f (x ∷ xs) (suc i) w e =
    let s = sum_by-cons f x xs in
    let r = one_within f xs i w e in
    omega (arith, s, r)

-- Where each has no more of the one than of the other, so have all.
pub all_within : (f g : WorkerView → ℕ) (ws : List WorkerView) → ((i : ℕ) (w : WorkerView) → slice_get ws i ≡ Some w → f w ≤ g w) → sum_by f ws ≤ sum_by g ws
all_within f g [] low = omega arith
all_within f g (x ∷ xs) low =
    let one = sum_by-cons f x xs in
    let two = sum_by-cons g x xs in
    let here = low 0 x refl in
    let r = all_within f g xs (λ i w e. low (suc i) w e) in
    omega (arith, one, two, here, r)

-- And one of them may have some more.
pub all_with_one : (f g : WorkerView → ℕ) (ws : List WorkerView) (more : ℕ) (i : ℕ) (w : WorkerView) → ((j : ℕ) (v : WorkerView) → slice_get ws j ≡ Some v → f v ≤ g v)
    → slice_get ws i ≡ Some w → f w + more ≤ g w → sum_by f ws + more ≤ sum_by g ws
all_with_one f g [] more i w low e h = absurd (cc)
all_with_one f g (x ∷ xs) more zero w low e h =
    let one = sum_by-cons f x xs in
    let two = sum_by-cons g x xs in
    let fx : f x ≡ f w = ap f (same_Some x w e) in
    let gx : g x ≡ g w = ap g (same_Some x w e) in
    let r = all_within f g xs (λ j v k. low (suc j) v k) in
    omega (arith, one, two, fx, gx, r, h)
all_with_one f g (x ∷ xs) more (suc i) w low e h =
    let one = sum_by-cons f x xs in
    let two = sum_by-cons g x xs in
    let here = low 0 x refl in
    let r = all_with_one f g xs more i w (λ j v k. low (suc j) v k) e h in
    omega (arith, one, two, here, r)

-- 2. A WORKER'S OWN.

kept_few : (kept : Option Kept) → slots_in kept ≤ 1
kept_few None = omega arith
kept_few (Some Unkept) = omega arith
kept_few (Some (Slot n)) = omega arith

-- It has no more slots than visits, with the one that it is about to enter.
pub enters_within : (task : Task) (stage : Stage) (fs : List FrameView) (visits : ℕ) → IsSoundAt task stage fs → own_size fs ≤ length fs → length fs ≤ visits
    → own_size fs + entering stage ≤ visits
enters_within task (Polling e) fs v s a b = omega (arith, a, b)
enters_within task (Drawing e) fs v s a b = omega (arith, a, b)
enters_within task Entering [] v s a b = absurd s
enters_within task Entering (f ∷ fs) v s a b =
    let none : slots_in f.kept ≡ 0 = ap (λ (g : FrameView). slots_in g.kept) s.1 in
    let r = size_length fs in
    omega (arith, none, r, b)
enters_within task (Looking p) fs v s a b = omega (arith, a, b)
enters_within task Claiming fs v s a b = omega (arith, a, b)
enters_within task (Leaving l) fs v s a b = omega (arith, a, b)
enters_within task (Posting p) fs v s a b = omega (arith, a, b)
enters_within task (Winding e) fs v s a b = omega (arith, a, b)

-- 3. ALL OF THEM.

-- No worker of a fair world has more slots than visits.
sizes_low : WorkersAreCounted → (world : World) → IsFair world → (i : ℕ) (w : WorkerView) → slice_get world.workers i ≡ Some w → own_size w.state.frames ≤ w.state.visits
sizes_low counted world fair i w e =
    let m = fair.members i w e in
    let c = counted w.task m.leads.happenings w.state m.leads.runs in
    let slots = c.slots in
    let frames = c.frames in
    omega (arith, slots, frames)

-- Table and desk suit each worker once they are opened.
pub suited : WorkersAreSound → WorkersAreCounted → (world : World) (place : ℕ) (worker : WorkerView) → IsFair world → IsDesk world.port.desk
    → slice_get world.workers place ≡ Some worker → Suits worker (book_of (opened world.port false))
suited sound counted world place worker fair desk e =
    let m = fair.members place worker e in
    let s = sound worker.task m.leads.happenings worker.state m.problem m.leads.runs in
    let c = counted worker.task m.leads.happenings worker.state m.leads.runs in
    record {
      problem = ap (λ (t : Task). t.problem) m.task;
      going = inl refl;
      held = λ word. (
          let all = fair.held word in
          let one = one_within (λ (w : WorkerView). own_slots (word_of (length world.port.pins)) w.state.frames word) world.workers place worker e in
          omega (arith, all, one));
      some = (
          let all = fair.size in
          let one = one_within (λ (w : WorkerView). own_size w.state.frames) world.workers place worker e in
          omega (arith, all, one));
      visits = (
          let all = fair.drawn in
          let one = one_within (λ (w : WorkerView). w.state.visits) world.workers place worker e in
          omega (arith, all, one));
      size = (
          let all = fair.size in
          let drawn = fair.drawn in
          let own = enters_within worker.task worker.state.stage worker.state.frames worker.state.visits s c.slots c.frames in
          let one = all_with_one (λ (w : WorkerView). own_size w.state.frames) (λ (w : WorkerView). w.state.visits) world.workers (entering worker.state.stage) place worker
          (sizes_low counted world fair) e own in
          omega (arith, all, drawn, one));
      most = (
          let low = desk.drawn in
          let most = desk.expansions.1 in
          omega (arith, low, most));
    }
