-- The world at first is fair.
use Rattle.std.proofs.Common.{◌≡◌, inl, inr, ℕ, zero, suc, ◌+◌, ◌/◌, ◌%◌, ◌<◌, List, [], ◌∷◌, ◌++◌, length, get_or, replicate, arith, refl, sym, ap, ◌∙◌, subst, Bool, false, sum_by}
use Rattle.std.specs.Prelude.{Option, Some, None, slice_get, sum}
use Rattle.std.proofs.lemmas.List.{length-replicate, get_or-replicate}
use Rattle.std.proofs.lemmas.List.Sums.{sum_by-cons}
use Rattle.std.proofs.lemmas.List.Folds.{sum_by-replicate}
use Rattle.std.proofs.lemmas.Bool.{cases_lt}
use Rattle.std.proofs.lemmas.List.{get_or_past}
use Rattle.std.proofs.lemmas.Option.{same_Some}
use Rattle.list_laws.proofs.Standing.{none_in_none}
use Rattle.board_core.specs.Board.{Board}
use Rattle.board_core.specs.Kept.{IsKept}
use Rattle.shogi_rules.specs.Tsume.{IsProblem}
use Rattle.notes.specs.Derivation.{Derivation}
use Rattle.table_shard.specs.Entry.{EntryView}
use Rattle.table_shard.specs.Spot.{word_of}
use Rattle.search_limits.specs.Sizes.{SettingsView}
use Rattle.unit_desk.specs.Desk.{DeskView, fresh}
use Rattle.visit_log.specs.declared.words.WorkEnd.{WorkEnd}
use Rattle.visit_log.specs.declared.words.WorkEnd.TheVariants.{Posted, Spent, NoRoom, TooHigh, NoMemory, Stopped}
use Rattle.visit_log.specs.Frame.{Task, task_for}
use Rattle.visit_log.specs.Run.{WorkerView}
use Rattle.visit_log.specs.Counts.{own_slots, own_size}
use Rattle.visit_log.specs.Laws.{HasCause}
use Rattle.lone_port.specs.Lone.{held_by, worker_at_first, alone_at_first, LonePortView}
use Rattle.lone_port.specs.World.{World, world_at_first, workers_from}
use Rattle.lone_port.specs.Filled.{IsFilled, IsWorldWith}
use Rattle.world_play.specs.Fair.{IsFair, IsMember, IsToldOf, only}

-- 1. THE WORKERS.

-- One more worker, behind.
pub workers_push : (problem : Board) (first n : ℕ) → workers_from problem first (suc n) ≡ workers_from problem first n ++ worker_at_first problem (first + n) ∷ []
workers_push problem first zero = let e : first ≡ first + 0 = omega arith in ap (λ (k : ℕ). worker_at_first problem k ∷ []) e
workers_push problem first (suc n) =
    let e : (first + 1) + n ≡ first + suc n = omega arith in
    ap (λ (ws : List WorkerView). worker_at_first problem first ∷ ws)
    (workers_push problem (first + 1) n
    ∙ ap (λ (k : ℕ). workers_from problem (first + 1) n ++ worker_at_first problem k ∷ []) e)

pub many_workers : (problem : Board) (first n : ℕ) → length (workers_from problem first n) ≡ n
many_workers problem first zero = refl
many_workers problem first (suc n) = let r = many_workers problem (first + 1) n in omega (arith, r)

-- What none of them has at first, they don't have all together.
none_at_first : (f : WorkerView → ℕ) (problem : Board) (first n : ℕ) → ((number : ℕ) → f (worker_at_first problem number) ≡ 0) → sum_by f (workers_from problem first n) ≡ 0
none_at_first f problem first zero none = refl
none_at_first f problem first (suc n) none =
    let s = sum_by-cons f (worker_at_first problem first) (workers_from problem (first + 1) n) in
    let here = none first in
    let r = none_at_first f problem (first + 1) n none in
    omega (arith, s, here, r)

worker_there : (problem : Board) (first n place : ℕ) (w : WorkerView) → slice_get (workers_from problem first n) place ≡ Some w → worker_at_first problem (first + place) ≡ w
worker_there problem first zero place w e = absurd (cc)
worker_there problem first (suc n) zero w e =
    let k : first + 0 ≡ first = omega arith in
    ap (worker_at_first problem) k ∙ same_Some (worker_at_first problem first) w e
worker_there problem first (suc n) (suc place) w e =
    let k : first + suc place ≡ (first + 1) + place = omega arith in
    ap (worker_at_first problem) k ∙ worker_there problem (first + 1) n place w e

-- 2. WHAT THEY WERE TOLD: NOTHING.

no_cause : (desk : DeskView) (task : Task) (end : WorkEnd) → HasCause task end [] → IsToldOf desk end
no_cause desk task Posted (inl c) = absurd (none_in_none _ c.1)
no_cause desk task Posted (inr c) = absurd (none_in_none _ c)
no_cause desk task Spent c = absurd (none_in_none _ c)
no_cause desk task NoRoom c = absurd (none_in_none _ c)
no_cause desk task TooHigh c = tt
no_cause desk task NoMemory c = tt
no_cause desk task Stopped c = tt

-- 3. THE TABLE: EMPTY.

abbrev none_of : List ℕ
none_of = replicate {A = ℕ} 8 0

no_count : (n place slot : ℕ) → get_or {A = ℕ} (get_or {A = List ℕ} (replicate n none_of) place []) slot 0 ≡ 0
no_count n place slot =
    elim (cases_lt place n) as (λ _. get_or {A = ℕ} (get_or {A = List ℕ} (replicate n none_of) place []) slot 0 ≡ 0) [
      | inl low ↦ ap (λ (counts : List ℕ). get_or counts slot 0) (get_or-replicate n place none_of [] low) ∙ eight slot
      | inr high ↦ ap (λ (counts : List ℕ). get_or counts slot 0) (get_or_past (replicate n none_of) place [] (let l = length-replicate n none_of in omega (arith, l, high)))
          ∙ get_or_past {X = ℕ} [] slot 0 (omega arith)
    ]
  where
    eight : (s : ℕ) → get_or {A = ℕ} none_of s 0 ≡ 0
    eight s = elim (cases_lt s 8) as (λ _. get_or {A = ℕ} none_of s 0 ≡ 0) [
      | inl low ↦ get_or-replicate {A = ℕ} 8 s 0 0 low
      | inr high ↦ get_or_past {X = ℕ} none_of s 0 (omega (arith, high))
    ]

-- 4. THE WORLD.

-- The world before anything happens, with other rows, and with what is posted.
abbrev pub world_with : Board → SettingsView → List (List EntryView) → Option Derivation → World
world_with problem s its_rows its_posted = record (world_at_first problem s) {
  port = record (alone_at_first problem s.expansions s.room s.rows s.lends) { rows = its_rows; desk = record (fresh problem s.expansions s.room) { posted = its_posted } };
}

-- It is fair, whatever is known in it.
pub filled_fair : (problem : Board) (s : SettingsView) (its_rows : List (List EntryView)) (its_posted : Option Derivation) → IsKept problem → IsProblem problem → 0 < s.workers
    → IsFair (world_with problem s its_rows its_posted)
filled_fair problem s its_rows its_posted kept is some = record {
  some = (let n = many_workers problem 1 s.workers in omega (arith, n, some));
  raised = length-replicate s.workers false ∙ sym (many_workers problem 1 s.workers);
  held = λ word. (
      let h : held_by (replicate s.rows (replicate 8 0)) word ≡ 0 = no_count s.rows (word / 8) (word % 8) in
      h ∙ sym (none_at_first (λ (w : WorkerView). own_slots (word_of (length (replicate s.rows (replicate 8 0)))) w.state.frames word) problem 1 s.workers (λ number. refl)));
  entered = λ key slot some. (
      let none = none_at_first (λ (w : WorkerView). own_slots (only key slot) w.state.frames 1) problem 1 s.workers (λ number. refl) in
      absurd (omega (arith, some, none)));
  size = (let none = sum_by-replicate sum s.rows (replicate 8 0) in
      let all = none_at_first (λ (w : WorkerView). own_size w.state.frames) problem 1 s.workers (λ number. refl) in
      omega (arith, none, all));
  drawn = sym (none_at_first (λ (w : WorkerView). w.state.visits) problem 1 s.workers (λ number. refl));
  claimed = sym (none_at_first (λ (w : WorkerView). w.state.claims) problem 1 s.workers (λ number. refl));
  members = λ place worker e. (
      let z = worker_there problem 1 s.workers place worker e in
      let k : 1 + place ≡ place + 1 = omega arith in
      let z2 : worker_at_first problem (place + 1) ≡ worker = ap (worker_at_first problem) (sym k) ∙ z in
      subst (λ (w : WorkerView). IsMember (record (fresh problem s.expansions s.room) { posted = its_posted }) place w) z2
      (record {
        task = refl;
        problem = record { kept = kept; problem = is };
        idle = refl;
        log = [];
        leads = record { happenings = []; runs = refl; logged = refl };
        told = no_cause (record (fresh problem s.expansions s.room) { posted = its_posted }) (task_for problem (place + 1));
      }));
}

pub first_fair : (problem : Board) (s : SettingsView) → IsKept problem → IsProblem problem → 0 < s.workers → IsFair (world_at_first problem s)
first_fair problem s kept is some = filled_fair problem s (replicate s.rows []) None kept is some

-- 5. THE WORLD THAT IS MADE.

pub made_is : (problem : Board) (s : SettingsView) (place : ℕ) (port : LonePortView) (workers : List WorkerView) (raised : List Bool)
    → port ≡ alone_at_first problem s.expansions s.room s.rows s.lends → workers ≡ workers_from problem 1 place → raised ≡ replicate place false → place ≡ s.workers
    → record { port = port; workers = workers; raised = raised } ≡ world_at_first problem s
made_is problem s place port workers raised one two three end =
    let ws : workers ≡ workers_from problem 1 s.workers = two ∙ ap (λ (n : ℕ). workers_from problem 1 n) end in
    let rs : raised ≡ replicate s.workers false = three ∙ ap (λ (n : ℕ). replicate n false) end in
    let P : LonePortView → List WorkerView → List Bool → World = λ p w r. record { port = p; workers = w; raised = r } in
    ap (λ (p : LonePortView). P p workers raised) one
    ∙ (ap (λ (w : List WorkerView). P (alone_at_first problem s.expansions s.room s.rows s.lends) w raised) ws
    ∙ ap (λ (r : List Bool). P (alone_at_first problem s.expansions s.room s.rows s.lends) (workers_from problem 1 s.workers) r) rs)

pub made_fair : (problem : Board) (s : SettingsView) (place : ℕ) (port : LonePortView) (workers : List WorkerView) (raised : List Bool) → IsKept problem → IsProblem problem
    → 0 < s.workers → port ≡ alone_at_first problem s.expansions s.room s.rows s.lends → workers ≡ workers_from problem 1 place → raised ≡ replicate place false
    → place ≡ s.workers → IsFair (record { port = port; workers = workers; raised = raised })
made_fair problem s place port workers raised kept is some one two three end =
    subst IsFair (sym (made_is problem s place port workers raised one two three end)) (first_fair problem s kept is some)

-- The one in which notes are known.
pub made_with : (notes : List Derivation) (problem : Board) (s : SettingsView) (port : LonePortView) (workers : List WorkerView) (raised : List Bool)
    → IsFilled notes (alone_at_first problem s.expansions s.room s.rows s.lends) port → workers ≡ workers_from problem 1 s.workers → raised ≡ replicate s.workers false
    → record { port = port; workers = workers; raised = raised } ≡ record (world_at_first problem s) { port = port }
made_with notes problem s port workers raised one two three = λ i. record { port = port; workers = two i; raised = three i }

pub made_world : (notes : List Derivation) (problem : Board) (s : SettingsView) (port : LonePortView) (workers : List WorkerView) (raised : List Bool)
    → IsFilled notes (alone_at_first problem s.expansions s.room s.rows s.lends) port → workers ≡ workers_from problem 1 s.workers → raised ≡ replicate s.workers false
    → IsWorldWith notes problem s (record { port = port; workers = workers; raised = raised })
made_world notes problem s port workers raised one two three =
    record { filled = one; others = made_with notes problem s port workers raised one two three }

pub made_with_fair : (notes : List Derivation) (problem : Board) (s : SettingsView) (port : LonePortView) (workers : List WorkerView) (raised : List Bool) → IsKept problem → IsProblem problem
    → 0 < s.workers → IsFilled notes (alone_at_first problem s.expansions s.room s.rows s.lends) port → workers ≡ workers_from problem 1 s.workers → raised ≡ replicate s.workers false
    → IsFair (record { port = port; workers = workers; raised = raised })
made_with_fair notes problem s port workers raised kept is some one two three =
    let there : world_with problem s port.rows port.desk.posted ≡ record { port = port; workers = workers; raised = raised } =
    λ i. record { port = sym one.others i; workers = sym two i; raised = sym three i } in
    subst IsFair there (filled_fair problem s port.rows port.desk.posted kept is some)

-- One more worker, and one more that isn't told to stop.
pub one_more : (problem : Board) (place : ℕ) (workers : List WorkerView) → workers ≡ workers_from problem 1 place
    → workers ++ worker_at_first problem (place + 1) ∷ [] ≡ workers_from problem 1 (place + 1)
one_more problem place workers e =
    let k : place + 1 ≡ 1 + place = omega arith in
    let n : suc place ≡ place + 1 = omega arith in
    ap (λ (ws : List WorkerView). ws ++ worker_at_first problem (place + 1) ∷ []) e
    ∙ (ap (λ (m : ℕ). workers_from problem 1 place ++ worker_at_first problem m ∷ []) k
    ∙ (sym (workers_push problem 1 place) ∙ ap (λ (m : ℕ). workers_from problem 1 m) n))

suc_push : (n : ℕ) → replicate n false ++ false ∷ [] ≡ replicate (suc n) false
suc_push zero = refl
suc_push (suc n) = ap (λ (r : List Bool). false ∷ r) (suc_push n)

pub false_push : (n : ℕ) → replicate n false ++ false ∷ [] ≡ replicate (n + 1) false
false_push n = let e : suc n ≡ n + 1 = omega arith in suc_push n ∙ ap (λ (m : ℕ). replicate m false) e
