-- After how many looks workers wound up: those that were refused memory, and some that lent a note.
use Rattle.std.proofs.Common.{◌≡◌, ◌≤◌, ◌⊎◌, inl, inr, subst, ◌+◌, length, suc, ℕ, Bool, true, false, cond, List, [], ◌∷◌, set, get_or, arith, refl, sym, ap, ap₂, ◌∙◌}
use Rattle.std.specs.Prelude.{Some, None, slice_get, slice_index_or, ◌&&◌, if◌then◌else◌}
use Rattle.std.proofs.lemmas.List.{length-set, get_or-set_same}
use Rattle.std.proofs.lemmas.Option.{slice_get_within, slice_get_read, same_Some}
use Rattle.std.proofs.lemmas.List.Sums.{sum_by-cons}
use Rattle.board_core.specs.declared.keys.Key.{Key}
use Rattle.notes.specs.declared.words.Seen.{Seen}
use Rattle.notes.specs.declared.words.Seen.TheVariants.{Lent}
use Rattle.visit_log.specs.declared.parts.Stage.{Stage}
use Rattle.visit_log.specs.declared.parts.Stage.TheVariants.{Looking, Winding}
use Rattle.visit_log.specs.declared.words.Request.{Request}
use Rattle.visit_log.specs.declared.words.Request.TheVariants.{Look}
use Rattle.visit_log.specs.declared.words.Reply.{Reply}
use Rattle.visit_log.specs.declared.words.Reply.TheVariants.{Look as Looked}
use Rattle.visit_log.specs.Visit.{Exchange}
use Rattle.visit_log.specs.Frame.{Task, FrameView}
use Rattle.visit_log.specs.Round.{looked}
use Rattle.visit_log.specs.Machine.{State, starve_at, IsLending, Settles, Sees, LeadsAt, path_of}
use Rattle.visit_log.specs.Run.{WorkerView, IsLooking}
use Rattle.worker_core.specs.Machine.{looks_at, winds_at}
use Rattle.lone_port.specs.Lone.{LonePortView, Turns, opened}
use Rattle.lone_port.specs.World.{World, Steps}
use Rattle.lone_port.specs.declared.event.Event.TheVariants.{Step}
use Rattle.world_play.specs.Fair.{numbered}
use Rattle.world_play.specs.Logs.{AreLost, is_lent, is_refused}
use Rattle.world_play.specs.Lost.{looks_of, winds_of, lost_by}
use Rattle.world_play.proofs.Happened.{IsRequest, at_work_by}

-- 1. WHERE A WORKER STANDS BEHIND A LOOK.

-- What a visit does next is never to wind up.
settles_on : (task : Task) (f : FrameView) (stage : Stage) (g : FrameView) → Settles task f stage g → winds_at stage ≡ false
settles_on task f (Winding end) g h = absurd h
settles_on task f stage g h = refl

-- A look that is answered has it wind up only where it lent a note.
abbrev WindsLent : Stage → Exchange → Type 0
WindsLent stage exchange = (winds_at stage ≡ false) ⊎ (is_lent exchange ≡ true)

lends : (q : Request) (seen : Seen) → IsLending seen → is_lent (q, Some (Looked seen)) ≡ true
lends q (Lent note) lending = refl
lends q seen lending = absurd lending

sees_on : (task : Task) (s t : State) (place : ℕ) (fs : List FrameView) (seen : Seen) (q : Request) → Sees task s place fs seen t
    → WindsLent t.stage (q, Some (Looked seen))
sees_on task s t place [] seen q h = absurd h
sees_on task s t place (f ∷ fs) seen q (inl h) = inl (settles_on task (looked task f h.0) t.stage h.5.next h.5.settles)
sees_on task s t place (f ∷ fs) seen q (inr lost) = inr (lends q seen lost.0)

answered_on : (task : Task) (s t : State) (stage : Stage) (q : Request) (answer : Reply) → LeadsAt task s stage answer t
    → (looks_at stage && winds_at t.stage ≡ false) ⊎ (is_lent (q, Some answer) ≡ true)
answered_on task s t (Looking place) q (Looked seen) h = sees_on task s t place s.frames seen q h
answered_on task s t (Looking place) q answer h = absurd h
answered_on task s t stage q answer h = inl refl

dark_winds : (s : State) (stage : Stage) → IsLooking stage → looks_at stage && winds_at (starve_at s stage).stage ≡ true
dark_winds s (Looking place) h = refl
dark_winds s stage h = absurd h

-- 2. WHICH LOOK WAS REFUSED.

dark_refused : (before : LonePortView) (path : List Key) (q : Request) (after : LonePortView) → Turns before path q None after → is_refused (q, None) ≡ true
dark_refused before path (Look key) after h = refl
dark_refused before path q after h = absurd h

answered_not : (q : Request) (a : Reply) → is_refused (q, Some a) ≡ false
answered_not (Look key) a = refl
answered_not q a = refl

-- Whether the worker looked before a step and winds up behind it: so where a look was refused
-- memory, and else only where one lent a note.
abbrev IsLost : Exchange → Bool → Type 0
IsLost x lost = (is_refused x ≡ lost) ⊎ ((is_refused x ≡ false) × (is_lent x ≡ true))

pub refused_is : (stops : Bool) (port : LonePortView) (worker : WorkerView) (x : Exchange) (after : LonePortView) (later : WorkerView) → Steps stops port worker x after later
    → IsLost x (looks_at worker.state.stage && winds_at later.state.stage)
refused_is stops port worker (q, None) after later steps =
    let goes = steps.goes in
    let winds = dark_winds worker.state worker.state.stage goes.1 in
    inl (dark_refused (opened port stops) (path_of worker.task worker.state.frames) q after steps.turns
    ∙ sym (ap (λ (s : State). looks_at worker.state.stage && winds_at s.stage) goes.2 ∙ winds))
refused_is stops port worker (q, Some a) after later steps =
    let goes = steps.goes in
    elim (answered_on worker.task worker.state later.state worker.state.stage q a goes.2) [
      | inl not ↦ inl (answered_not q a ∙ sym not)
      | inr lent ↦ inr (answered_not q a, lent)
    ]

-- 3. HOW MANY.

one_or_none : (b : Bool) → ◌≡◌ {A = ℕ} (cond b 1 0) (if b then 1 else 0)
one_or_none true = refl
one_or_none false = refl

at_most_one : (b : Bool) → ◌≤◌ (if b then 1 else 0) 1
at_most_one true = omega arith
at_most_one false = omega arith

-- One event with a request has as many as that request.
pub lost_one : (number : ℕ) (x : Exchange) (b : Bool) → IsLost x b → AreLost ((number, x) ∷ []) (if b then 1 else 0)
lost_one number x b (inl is) =
    let one = sum_by-cons (λ (told : ℕ × Exchange). cond (is_refused told.1) 1 0) (number, x) [] in
    let count : ◌≡◌ {A = ℕ} (cond (is_refused x) 1 0) (if b then 1 else 0) = ap {B = ℕ} (λ (c : Bool). cond c 1 0) is ∙ one_or_none b in
    record { least = omega (arith, one, count); most = omega (arith, one, count) }
lost_one number x b (inr (not, lent)) =
    let one = sum_by-cons (λ (told : ℕ × Exchange). cond (is_refused told.1) 1 0) (number, x) [] in
    let two = sum_by-cons (λ (told : ℕ × Exchange). cond (is_lent told.1) 1 0) (number, x) [] in
    let none : cond {A = ℕ} (is_refused x) 1 0 ≡ 0 = ap {B = ℕ} (λ (c : Bool). cond c 1 0) not in
    let some : cond {A = ℕ} (is_lent x) 1 0 ≡ 1 = ap {B = ℕ} (λ (c : Bool). cond c 1 0) lent in
    let few = at_most_one b in
    record { least = omega (arith, one, none); most = omega (arith, one, none, two, some, few) }

-- What is read at a place that was set is what was put there.
read_set : (ws : List WorkerView) (place : ℕ) (worker later read : WorkerView) → slice_get ws place ≡ Some worker → read ≡ get_or (set ws place later) place read → read ≡ later
read_set ws place worker later read there is = is ∙ get_or-set_same ws place later read (slice_get_within ws place worker there)

-- The worker of its number stands at its place.
numbered_at : (ws : List WorkerView) (number place : ℕ) (worker : WorkerView) → number ≡ place + 1 → slice_get ws place ≡ Some worker → numbered ws number ≡ Some worker
numbered_at ws number place worker is there =
    let at : number ≡ suc place = omega (arith, is) in
    ap (numbered ws) at ∙ there

set_there : (ws : List WorkerView) (place : ℕ) (worker later : WorkerView) → slice_get ws place ≡ Some worker → slice_get (set ws place later) place ≡ Some later
set_there ws place worker later there =
    let low = slice_get_within ws place worker there in
    let as_low = length-set ws place later in
    slice_get_read (set ws place later) (length (set ws place later)) place later refl (omega (arith, low, as_low)) (sym (get_or-set_same ws place later later low))

-- So what the code counts is exactly so.
pub step_exact : (world after : World) (number place : ℕ) (worker later : WorkerView) (x : Exchange) (first last : WorkerView) (looks winds : Bool) (lost : ℕ)
    → IsRequest world after number place worker later x → first ≡ get_or world.workers place first → last ≡ get_or (set world.workers place later) place last
    → looks ≡ looks_at first.state.stage → winds ≡ winds_at last.state.stage → lost ≡ (if looks && winds then 1 else 0) → lost ≡ lost_by world (Step number) after
step_exact world after number place worker later x first last looks winds lost r one two looked_is winds_is counts =
    let a1 = at_work_by world number place worker first r.at_work one in
    let behind : last ≡ later = read_set world.workers place worker later last r.at_work.there two in
    let here : numbered world.workers number ≡ Some first = numbered_at world.workers number place first r.at_work.numbered a1.there in
    let there : numbered after.workers number ≡ Some later =
    ap (λ (ws : List WorkerView). numbered ws number) r.workers
    ∙ numbered_at (set world.workers place later) number place later r.at_work.numbered (set_there world.workers place worker later r.at_work.there) in
    let l : looks ≡ looks_of (numbered world.workers number) = looked_is ∙ sym (ap looks_of here) in
    let w : winds ≡ winds_of (numbered after.workers number) = winds_is ∙ (ap (λ (v : WorkerView). winds_at v.state.stage) behind ∙ sym (ap winds_of there)) in
    counts ∙ ap₂ {C = ℕ} (λ (a b : Bool). if a && b then 1 else 0) l w

-- What the code counts in a step: from the worker that it read before it, and from the one that it
-- read behind it.
pub step_refused : (world after : World) (number place : ℕ) (worker later : WorkerView) (x : Exchange) (first last : WorkerView) (looks winds : Bool) (refused : ℕ)
    → IsRequest world after number place worker later x → first ≡ get_or world.workers place first → last ≡ get_or (set world.workers place later) place last
    → looks ≡ looks_at first.state.stage → winds ≡ winds_at last.state.stage → refused ≡ (if looks && winds then 1 else 0)
    → AreLost ((number, x) ∷ []) refused
step_refused world after number place worker later x first last looks winds refused r one two looked_is winds_is counts =
    let a1 = at_work_by world number place worker first r.at_work one in
    let same : worker ≡ first = same_Some worker first (sym r.at_work.there ∙ a1.there) in
    let behind : last ≡ later = read_set world.workers place worker later last r.at_work.there two in
    let l : looks_at worker.state.stage ≡ looks = ap (λ (w : WorkerView). looks_at w.state.stage) same ∙ sym looked_is in
    let w : winds_at later.state.stage ≡ winds = ap (λ (v : WorkerView). winds_at v.state.stage) (sym behind) ∙ sym winds_is in
    let is : IsLost x (looks && winds) =
    subst (IsLost x) (ap₂ (λ (a b : Bool). a && b) l w) (refused_is (slice_index_or world.raised place false) (opened world.port false) worker x after.port later r.steps) in
    subst (AreLost ((number, x) ∷ [])) (sym counts) (lost_one number x (looks && winds) is)
