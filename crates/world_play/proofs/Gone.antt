-- How the logs of a world's workers go on.
use Rattle.std.proofs.Common.{◌≡◌, ◌≢◌, inl, inr, ℕ, ◌+◌, ◌<◌, List, [], ◌∷◌, ◌++◌, length, set, get_or, arith, refl, sym, ap, ◌∙◌, subst, Bool, true, false, length-set, append_assoc, append-nil, eqb}
use Rattle.std.specs.Prelude.{Some, slice_get, if◌then◌else◌}
use Rattle.std.proofs.lemmas.Bool.{cases_eq, eq-eqb}
use Rattle.std.proofs.lemmas.Bool.Decides.{nat_tests}
use Rattle.std.proofs.lemmas.Option.{slice_get_within, slice_get-get_or, same_Some}
use Rattle.visit_log.specs.Visit.{Exchange}
use Rattle.visit_log.specs.Frame.{Task}
use Rattle.visit_log.specs.Machine.{State}
use Rattle.visit_log.specs.Run.{WorkerView, Leads, IsReached, now_at}
use Rattle.world_play.specs.Logs.{told_to, GoesOnBy, GoOnBy}
use Rattle.world_play.proofs.Stepped.{get_set, get_set_other}

-- 1. A WORLD'S LOG, BY ITS WORKERS.

told_append : (n : ℕ) (a b : List (ℕ × Exchange)) → told_to n (a ++ b) ≡ told_to n a ++ told_to n b
told_append n [] b = refl
told_append n (t ∷ a) b = by_test (eqb t.0 n) (told_append n a b)
  where
    by_test : (same : Bool) → told_to n (a ++ b) ≡ told_to n a ++ told_to n b
        → (if same then t.1 ∷ told_to n (a ++ b) else told_to n (a ++ b)) ≡ (if same then t.1 ∷ told_to n a else told_to n a) ++ told_to n b
    by_test true e = ap (λ (z : List Exchange). t.1 ∷ z) e
    by_test false e = e

told_one : (n m : ℕ) (x : Exchange) → n ≡ m → told_to m ((n, x) ∷ []) ≡ x ∷ []
told_one n m x e = ap (λ (b : Bool). if b then x ∷ [] else []) (eq-eqb n m e)

told_none : (n m : ℕ) (x : Exchange) → n ≢ m → told_to m ((n, x) ∷ []) ≡ []
told_none n m x ne =
    let t : eqb n m ≡ false = grind (arith, nat_tests) in
    ap (λ (b : Bool). if b then x ∷ [] else []) t

-- 2. ONE WORKER.

goes_same : (w : WorkerView) (follows : List Exchange) → follows ≡ [] → GoesOnBy w w follows
goes_same w follows e = record {
  task = refl;
  reached = λ log r. subst (λ (z : List Exchange). IsReached w z) (sym (ap (λ (f : List Exchange). log ++ f) e ∙ append-nil log)) r;
}

-- A worker that goes on by what follows, whatever led to it.
pub goes_on_by : (worker later : WorkerView) (follows : List Exchange) → worker.waiting ≡ false → later.waiting ≡ false → later.task ≡ worker.task
    → ((log : List Exchange) → Leads worker.task log worker.state → Leads worker.task (log ++ follows) later.state) → GoesOnBy worker later follows
goes_on_by worker later follows idle then_idle task leads = record {
  task = task;
  reached = λ log r.
      let e : worker.state ≡ r.state = subst (λ (b : Bool). worker.state ≡ now_at b r.state) idle r.now in
      let l = leads log (subst (λ (s : State). Leads worker.task log s) (sym e) r.leads) in
      record {
        state = later.state;
        leads = subst (λ (t : Task). Leads t (log ++ follows) later.state) (sym task) l;
        now = subst (λ (b : Bool). later.state ≡ now_at b later.state) (sym then_idle) refl;
      };
}

-- 3. ALL WORKERS.

pub gone_none : (ws : List WorkerView) → GoOnBy ws [] ws
gone_none ws = record {
  as_many = refl;
  each = λ place before after e f. (
      let z : before ≡ after = same_Some before after (sym e ∙ f) in
      subst (λ (v : WorkerView). GoesOnBy before v []) z (goes_same before [] refl));
}

pub gone_then : (ws vs us : List WorkerView) (a b : List (ℕ × Exchange)) → GoOnBy ws a vs → GoOnBy vs b us → GoOnBy ws (a ++ b) us
gone_then ws vs us a b g h = record {
  as_many = h.as_many ∙ g.as_many;
  each = λ place before after e f. (
      let low = slice_get_within ws place before e in
      let many = g.as_many in
      let within : place < length vs = omega (arith, low, many) in
      let mid : WorkerView = get_or vs place before in
      let there : slice_get vs place ≡ Some mid = slice_get-get_or vs place before within in
      let one = g.each place before mid e there in
      let two = h.each place mid after there f in
      record {
        task = two.task ∙ one.task;
        reached = λ log r. (
            let n : (log ++ told_to (place + 1) a) ++ told_to (place + 1) b ≡ log ++ told_to (place + 1) (a ++ b) =
            append_assoc log (told_to (place + 1) a) (told_to (place + 1) b) ∙ ap (λ (z : List Exchange). log ++ z) (sym (told_append (place + 1) a b)) in
            subst (λ (z : List Exchange). IsReached after z) n (two.reached (log ++ told_to (place + 1) a) (one.reached log r)));
      });
}

gone_at : (ws : List WorkerView) (place : ℕ) (worker later : WorkerView) (log : List (ℕ × Exchange)) → slice_get ws place ≡ Some worker
    → GoesOnBy worker later (told_to (place + 1) log) → ((n : ℕ) → n ≢ place → told_to (n + 1) log ≡ []) → GoOnBy ws log (set ws place later)
gone_at ws place worker later log there own others = record {
  as_many = length-set ws place later;
  each = λ n before after e f.
      elim (cases_eq n place) as (λ _. GoesOnBy before after (told_to (n + 1) log)) [
        | inl same ↦ (
            let b : worker ≡ before = same_Some worker before (sym there ∙ (ap (λ (k : ℕ). slice_get ws k) (sym same) ∙ e)) in
            let a : later ≡ after = same_Some later after (sym (get_set ws place later worker there) ∙ (ap (λ (k : ℕ). slice_get (set ws place later) k) (sym same) ∙ f)) in
            subst (λ (k : ℕ). GoesOnBy before after (told_to (k + 1) log)) (sym same)
            (subst (λ (v : WorkerView). GoesOnBy v after (told_to (place + 1) log)) b (subst (λ (v : WorkerView). GoesOnBy worker v (told_to (place + 1) log)) a own)))
        | inr ne ↦ (
            let z : before ≡ after = same_Some before after (sym e ∙ (sym (get_set_other ws place n later ne) ∙ f)) in
            subst (λ (v : WorkerView). GoesOnBy before v (told_to (n + 1) log)) z (goes_same before (told_to (n + 1) log) (others n ne)))
      ];
}

-- A worker's request was answered.
pub gone_one : (ws : List WorkerView) (place number : ℕ) (worker later : WorkerView) (x : Exchange) → slice_get ws place ≡ Some worker → number ≡ place + 1
    → GoesOnBy worker later (x ∷ []) → GoOnBy ws ((number, x) ∷ []) (set ws place later)
gone_one ws place number worker later x there e own =
    gone_at ws place worker later ((number, x) ∷ []) there
    (subst (λ (z : List Exchange). GoesOnBy worker later z) (sym (told_one number (place + 1) x e)) own)
    (λ n ne. (let other : number ≢ n + 1 = omega (arith, e, ne) in told_none number (n + 1) x other))

-- A worker changed, and asked nothing.
pub gone_quietly : (ws : List WorkerView) (place : ℕ) (worker later : WorkerView) → slice_get ws place ≡ Some worker → GoesOnBy worker later []
    → GoOnBy ws [] (set ws place later)
gone_quietly ws place worker later there own = gone_at ws place worker later [] there own (λ n ne. refl)
