-- A fair world stays fair when one of its workers goes on.
use Rattle.std.proofs.Common.{◌≡◌, ◌≢◌, inl, inr, ℕ, zero, suc, ◌+◌, ◌<◌, List, [], ◌∷◌, ◌++◌, length, set, get_or, arith, refl, sym, ap, ◌∙◌, subst, Bool, false, sum_by, length-set}
use Rattle.std.specs.Prelude.{Some, slice_get}
use Rattle.std.proofs.lemmas.Bool.{cases_eq}
use Rattle.std.proofs.lemmas.List.Sums.{sum_by-set}
use Rattle.std.proofs.lemmas.Option.{slice_get_within, get_or_from_slice_get, same_Some}
use Rattle.board_core.specs.declared.keys.Key.{Key}
use Rattle.table_shard.specs.Row.{HoldsAt}
use Rattle.table_shard.specs.Shard.{row_of}
use Rattle.table_shard.specs.Spot.{word_of}
use Rattle.unit_desk.specs.Desk.{DeskView}
use Rattle.visit_log.specs.Visit.{Exchange}
use Rattle.visit_log.specs.Frame.{Task, task_for}
use Rattle.visit_log.specs.Machine.{path_of}
use Rattle.visit_log.specs.Run.{WorkerView, Leads}
use Rattle.visit_log.specs.Sound.{IsTask}
use Rattle.visit_log.specs.declared.words.WorkEnd.{WorkEnd}
use Rattle.visit_log.specs.Counts.{Words, own_slots, own_size}
use Rattle.visit_log.specs.Laws.{HasCause}
use Rattle.worker_core.specs.Port.{KeepsOthers}
use Rattle.lone_port.specs.Lone.{LonePortView, book_of, opened}
use Rattle.lone_port.specs.World.{World, Steps}
use Rattle.world_play.specs.Fair.{IsFair, IsMember, IsToldOf, all_slots, all_entered}
use Rattle.world_play.proofs.Desks.{KeepsDesk, keeps, told_still, told_on}

-- 1. ONE OF A LIST IN ANOTHER'S PLACE.

pub get_set : {X : Type 0} (xs : List X) (i : ℕ) (x old : X) → slice_get xs i ≡ Some old → slice_get (set xs i x) i ≡ Some x
get_set {X} [] i x old e = absurd (cc)
get_set {X} (y ∷ ys) zero x old e = refl
get_set {X} (y ∷ ys) (suc i) x old e = get_set ys i x old e

pub get_set_other : {X : Type 0} (xs : List X) (i j : ℕ) (x : X) → j ≢ i → slice_get (set xs i x) j ≡ slice_get xs j
get_set_other {X} [] i j x ne = refl
get_set_other {X} (y ∷ ys) zero zero x ne = absurd (ne refl)
get_set_other {X} (y ∷ ys) zero (suc j) x ne = refl
get_set_other {X} (y ∷ ys) (suc i) zero x ne = refl
get_set_other {X} (y ∷ ys) (suc i) (suc j) x ne = get_set_other ys i j x (λ e. ne (ap suc e))

-- What holds of the new one, and held of each other, holds of each.
pub each_set : {X : Type 0} (P : ℕ → X → Type 0) (xs : List X) (i : ℕ) (x old : X) → slice_get xs i ≡ Some old → P i x
    → ((j : ℕ) (y : X) → j ≢ i → slice_get xs j ≡ Some y → P j y) → (j : ℕ) (y : X) → slice_get (set xs i x) j ≡ Some y → P j y
each_set {X} P xs i x old there here others j y e =
    elim (cases_eq j i) as (λ _. P j y) [
      | inl same ↦ (let g : slice_get (set xs i x) i ≡ Some y = ap (λ (n : ℕ). slice_get (set xs i x) n) (sym same) ∙ e in
          let z : x ≡ y = same_Some x y (sym (get_set xs i x old there) ∙ g) in
          subst (λ (n : ℕ). P n y) (sym same) (subst (λ (v : X). P i v) z here))
      | inr ne ↦ others j y ne (sym (get_set_other xs i j x ne) ∙ e)
    ]

-- How a sum goes on.
pub sum_set : (f : WorkerView → ℕ) (ws : List WorkerView) (i : ℕ) (w v : WorkerView) → slice_get ws i ≡ Some w → sum_by f (set ws i v) + f w ≡ sum_by f ws + f v
sum_set f ws i w v e =
    let q = sum_by-set f ws i v w (slice_get_within ws i w e) in
    let g : f (get_or ws i w) ≡ f w = ap f (get_or_from_slice_get ws i w w e) in
    omega (arith, q, g)

-- 2. A WORLD WHOSE WORKER GOES ON.

-- A member by another log.
pub member_still : (before after : DeskView) (place : ℕ) (w : WorkerView) → KeepsDesk before after → IsMember before place w → IsMember after place w
member_still before after place w k m = record {
  task = m.task ∙ ap (λ b. task_for b (place + 1)) (sym k.position);
  problem = m.problem;
  idle = m.idle;
  log = m.log;
  leads = m.leads;
  told = λ end c. told_still before after k end (m.told end c);
}

-- What a worker has is no other at the place.
pub fair_on : (world after : World) (place : ℕ) (worker later : WorkerView) → IsFair world → slice_get world.workers place ≡ Some worker
    → after.workers ≡ set world.workers place later → length after.raised ≡ length world.raised
    → KeepsOthers worker later (book_of (opened world.port false)) (book_of after.port) → KeepsDesk world.port.desk after.port.desk
    → ((key : Key) (slot : ℕ) → 0 < all_entered (set world.workers place later) key slot → HoldsAt (row_of after.port.rows key) slot key)
    → IsMember after.port.desk place later → IsFair after
fair_on world after place worker later fair there is raised keep desk entered member =
    let long : length (set world.workers place later) ≡ length world.workers = length-set world.workers place later in
    let size : length after.workers ≡ length world.workers = ap length is ∙ long in
    record {
      some = (let s = fair.some in omega (arith, s, size));
      raised = raised ∙ (fair.raised ∙ sym size);
      held = λ word. (
          let words : Words = word_of (length world.port.pins) in
          let q = sum_set (λ (w : WorkerView). own_slots words w.state.frames word) world.workers place worker later there in
          let m = keep.held word in
          let b = fair.held word in
          let a = ap (λ (ws : List WorkerView). all_slots words ws word) is in
          let n : all_slots (word_of (length after.port.pins)) after.workers word ≡ all_slots words after.workers word =
          ap (λ (z : Words). all_slots z after.workers word) keep.words in
          omega (arith, q, m, b, a, n));
      entered = λ key slot some. entered key slot (subst (λ (ws : List WorkerView). 0 < all_entered ws key slot) is some);
      size = (
          let q = sum_set (λ (w : WorkerView). own_size w.state.frames) world.workers place worker later there in
          let m = keep.size in
          let b = fair.size in
          let a = ap (λ (ws : List WorkerView). sum_by (λ (w : WorkerView). own_size w.state.frames) ws) is in
          omega (arith, q, m, b, a));
      drawn = (
          let q = sum_set (λ (w : WorkerView). w.state.visits) world.workers place worker later there in
          let m = keep.visits in
          let b = fair.drawn in
          let a = ap (λ (ws : List WorkerView). sum_by (λ (w : WorkerView). w.state.visits) ws) is in
          omega (arith, q, m, b, a));
      claimed = (
          let q = sum_set (λ (w : WorkerView). w.state.claims) world.workers place worker later there in
          let m = keep.rooms in
          let b = fair.claimed in
          let a = ap (λ (ws : List WorkerView). sum_by (λ (w : WorkerView). w.state.claims) ws) is in
          omega (arith, q, m, b, a));
      members = λ j w e.
          each_set (λ (n : ℕ) (v : WorkerView). IsMember after.port.desk n v) world.workers place later worker there member
          (λ n v ne g. member_still world.port.desk after.port.desk n v desk (fair.members n v g)) j w
          (ap (λ (ws : List WorkerView). slice_get ws j) (sym is) ∙ e);
    }

-- 3. WHAT A STEP COMES TO.

-- The member once its request was answered.
pub member_on : (port next : LonePortView) (stops : Bool) (place : ℕ) (worker later : WorkerView) (x : Exchange) → IsMember port.desk place worker
    → Steps stops port worker x next later → ((log : List Exchange) → Leads worker.task log worker.state → Leads worker.task (log ++ x ∷ []) later.state)
    → IsMember next.desk place later
member_on port next stops place worker later x m steps leads =
    let path = path_of worker.task worker.state.frames in
    let k = keeps (opened port stops) path x.0 x.1 next steps.turns in
    record {
      task = steps.task ∙ (m.task ∙ ap (λ b. task_for b (place + 1)) (sym k.position));
      problem = subst IsTask (sym steps.task) m.problem;
      idle = steps.idle;
      log = m.log ++ x ∷ [];
      leads = subst (λ (t : Task). Leads t (m.log ++ x ∷ []) later.state) (sym steps.task) (leads m.log m.leads);
      told = subst (λ (t : Task). (end : WorkEnd) → HasCause t end (m.log ++ x ∷ []) → IsToldOf next.desk end) (sym steps.task)
          (told_on (opened port stops) path x next worker.task m.log steps.turns m.told);
    }
