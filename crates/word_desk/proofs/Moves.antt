-- Each kind of step keeps the rule.
use Rattle.std.proofs.Common.{◌≡◌, ℕ, zero, suc, ◌+◌, ◌-◌, ◌*◌, ◌%◌, ◌^◌, ◌<◌, ◌≤◌, ◌||◌, nat_lt, Bool, true, false, List, [], ◌∷◌, ◌++◌, length, set, slice_index, slice_set, sym, refl, ap, ◌∙◌, subst, cond, arith, length-set, mod-eq_of_lt, bit_or}
use Rattle.std.specs.Prelude.{sum_by, IsTrue}
use Rattle.std.proofs.Math.Nat.{mul-add-mod_self_right}
use Rattle.std.proofs.lemmas.List.{get_or-set_same, get_or-set_other, set-get_or}
use Rattle.std.proofs.lemmas.Nat.{or_block, or_disjoint}
use Rattle.std.proofs.lemmas.Bool.{le-leb, lt-leb, lt-ltb, le-ltb}
use Rattle.std.proofs.lemmas.List.Sums.{sum_by-cons, sum_by-append, sum_by_push}
use Rattle.std.proofs.lemmas.List.Elements.{All-set, All-push}
use Rattle.std.specs.Int.Bits.{and_zero_r}
use mathlib.Core.Option.{some}
use native.Mathlib.Decide.{dec_le}
use lib.ListN.{get_elem?}
use Rattle.atomic_table.specs.Table.{State, Me, Allows, Splits, Joins, keeps}
use Rattle.atomic_table.proofs.Lists.{set_again, set_here}
use Rattle.search_limits.specs.declared.expansions.TheConstants.{MOST_EXPANSIONS}
use Rattle.search_limits.specs.declared.settings.TheConstants.{MOST_ROOM}
use Rattle.word_desk.specs.declared.view.TheConstants.{POSTED}
use Rattle.word_desk.specs.declared.view.View.{View}
use Rattle.word_desk.specs.Rule.{sum_to, count_above, AreFew, spent, newcomer, after_draw, after_claim, after_post, after_join, with_part_less, IsFit, IsKept}
use Rattle.view_sums.proofs.Views.{there, sum_by-at, sum_by-set_at, All-at}
use Rattle.word_desk.proofs.Views.{sum_by-at_two, else_at}
use Rattle.word_desk.proofs.Sums.{above, above-le}
use Rattle.word_desk.proofs.Fits.{drawn_weight, claimed_weight, few_tickets, few_claims, drawn_few, claimed_few, fit_more}

abbrev parts_of : View → ℕ
parts_of v = v.parts

abbrev won_of : View → ℕ
won_of v = cond v.won 1 0

-- the view stands at the seat's place once it is put there
put_at : (views : List View) (id : ℕ) (v w : View) → get_elem? views id ≡ some v → get_elem? (set views id w) id ≡ some w
put_at views id v w at = set_here views id w (there views id v at).0

not_met : IsTrue false → ⊥
not_met e = let z : ◌≡◌ {A = ℕ} 0 1 = ap (λ (b : Bool). cond {A = ℕ} b 1 0) e in omega (arith, z)

-- DRAWS.

-- whether a note is posted is told by the size of the first word
posted_is : (winners tickets found : ℕ) → found ≡ winners * POSTED + tickets → tickets < 2 ^ 31 → winners ≤ 1 → POSTED ≤ found → winners ≡ 1
posted_is winners tickets found e few once posted = omega (arith, e, few, once, posted)

open_is : (winners tickets found : ℕ) → found ≡ winners * POSTED + tickets → tickets < 2 ^ 31 → found < POSTED → winners ≡ 0
open_is winners tickets found e few open_ = omega (arith, e, few, open_)

low_of : (winners tickets found : ℕ) → found ≡ winners * POSTED + tickets → tickets < 2 ^ 31 → found % POSTED ≡ tickets
low_of winners tickets found e few = ap (λ z. z % POSTED) e ∙ (mul-add-mod_self_right winners POSTED tickets ∙ mod-eq_of_lt (omega (arith, few)))

pub missed_draw : (view : View) (found : ℕ) → POSTED ≤ found → after_draw view found ≡ record view { missed = (found % POSTED + 1) ∷ view.missed; met = true }
missed_draw view found posted = ap (λ (b : Bool). cond b (record view { missed = (found % POSTED + 1) ∷ view.missed; met = true }) (record view { drawn = (found + 1) ∷ view.drawn })) (le-leb POSTED found posted)

pub drawn_draw : (view : View) (found : ℕ) → found < POSTED → after_draw view found ≡ record view { drawn = (found + 1) ∷ view.drawn }
drawn_draw view found open_ = ap (λ (b : Bool). cond b (record view { missed = (found % POSTED + 1) ∷ view.missed; met = true }) (record view { drawn = (found + 1) ∷ view.drawn })) (lt-leb POSTED found open_)

-- a view after a draw: the number after the tickets is one more of its numbers, its parts and wins
-- stay, and it fits
pub record Drew (winners tickets : ℕ) (v w : View) : Type 0 where
  pub weighs : (weight : ℕ → ℕ) → drawn_weight weight w ≡ drawn_weight weight v + weight (tickets + 1)
  pub claimed : w.claimed ≡ v.claimed
  pub won : w.won ≡ v.won
  pub parts : w.parts ≡ v.parts
  pub fit : IsFit winners w

drew : (winners tickets found : ℕ) (v : View) → found ≡ winners * POSTED + tickets → tickets < 2 ^ 31 → winners ≤ 1 → IsFit winners v
    → 0 < v.parts → count_above MOST_EXPANSIONS v.drawn + count_above MOST_EXPANSIONS v.missed ≡ 0
    → Drew winners tickets v (after_draw v found)
drew winners tickets found v e few once fit some_part none_late = go (dec_le POSTED found)
  where
    go : Dec (POSTED ≤ found) → Drew winners tickets v (after_draw v found)
    go (yes posted) =
        let is = missed_draw v found posted in
        let w : View = record v { missed = (found % POSTED + 1) ∷ v.missed; met = true } in
        let low = low_of winners tickets found e few in
        let won = posted_is winners tickets found e few once posted in
        let drew_w : Drew winners tickets v w = record {
          weighs = λ weight.
              let here : weight (found % POSTED + 1) ≡ weight (tickets + 1) = ap (λ z. weight (z + 1)) low in
              omega (arith, here, sum_by-cons weight (found % POSTED + 1) v.missed);
          claimed = refl;
          won = refl;
          parts = refl;
          fit = record {
            draws = let one = above-le MOST_EXPANSIONS (found % POSTED + 1) in omega (arith, none_late, some_part, one, sum_by-cons (above MOST_EXPANSIONS) (found % POSTED + 1) v.missed);
            claims = fit.claims;
            met = λ _. won;
            missed = λ none_won. absurd (omega (arith, won, none_won));
            part = λ no_part. absurd (omega (arith, no_part, some_part));
          };
        } in
        subst (Drew winners tickets v) (sym is) drew_w
    go (no d) =
        let open_ : found < POSTED = omega (arith, d) in
        let is = drawn_draw v found open_ in
        let w : View = record v { drawn = (found + 1) ∷ v.drawn } in
        let none_won = open_is winners tickets found e few open_ in
        let same : found ≡ tickets = omega (arith, e, none_won) in
        let drew_w : Drew winners tickets v w = record {
          weighs = λ weight.
              let here : weight (found + 1) ≡ weight (tickets + 1) = ap (λ z. weight (z + 1)) same in
              omega (arith, here, sum_by-cons weight (found + 1) v.drawn);
          claimed = refl;
          won = refl;
          parts = refl;
          fit = record {
            draws = let one = above-le MOST_EXPANSIONS (found + 1) in omega (arith, none_late, some_part, one, sum_by-cons (above MOST_EXPANSIONS) (found + 1) v.drawn);
            claims = fit.claims;
            met = fit.met;
            missed = fit.missed;
            part = λ no_part. absurd (omega (arith, no_part, some_part));
          };
        } in
        subst (Drew winners tickets v) (sym is) drew_w

pub draws : (slots id : ℕ) (me : Me ℕ View) → 0 < me.0.parts → count_above MOST_EXPANSIONS me.0.drawn + count_above MOST_EXPANSIONS me.0.missed ≡ 0
    → Allows (λ s. IsKept s.words s.views) slots id me 0 (λ n. (n + 1) % 2 ^ 64) (λ found later. (later ≡ (after_draw me.0 found, me.1)) × AreFew later.0.drawn × (IsTrue me.0.met → POSTED ≤ found))
draws slots id me some_part none_late s k homes at word =
    let v : View = me.0 in
    let n : ℕ = slice_index s.words 0 in
    let m : ℕ = (n + 1) % 2 ^ 64 in
    let w : View = after_draw v n in
    let small = few_tickets s.words s.views k in
    let u = k.visits in
    let once = k.once in
    let next : m ≡ n + 1 = mod-eq_of_lt (omega (arith, u, once, small)) in
    let fit = All-at (IsFit k.winners) s.views id v k.fit at in
    let met_posted : IsTrue v.met → POSTED ≤ n = λ met. let one = fit.met met in omega (arith, one, u) in
    let d = drew k.winners k.tickets n v u small once fit some_part none_late in
    let lt : 0 < length s.words = let z = k.sized in omega (arith, z) in
    let set_is : slice_index (slice_set s.words 0 m) 0 ≡ m = get_or-set_same s.words 0 m 0 lt in
    let other_is : slice_index (slice_set s.words 0 m) 1 ≡ slice_index s.words 1 = get_or-set_other s.words 0 1 m 0 (λ e. omega (arith, e)) in
    let kept : IsKept (slice_set s.words 0 m) (set s.views id w) = record {
      tickets = suc k.tickets;
      winners = k.winners;
      sized = length-set s.words 0 m ∙ k.sized;
      visits = omega (arith, set_is, next, u);
      draws = λ weight. let t = sum_by-set_at (drawn_weight weight) s.views id v w at in let a = k.draws weight in let b = d.weighs weight in omega (arith, t, a, b);
      claims = λ weight.
          let t = sum_by-set_at (claimed_weight weight) s.views id v w at in
          let same : claimed_weight weight w ≡ claimed_weight weight v = ap (sum_by weight) d.claimed in
          let to = ap (sum_to weight) other_is in
          let a = k.claims weight in omega (arith, t, a, same, to);
      wins = let t = sum_by-set_at won_of s.views id v w at in let same : won_of w ≡ won_of v = ap (λ (b : Bool). cond {A = ℕ} b 1 0) d.won in let a = k.wins in omega (arith, t, a, same);
      once = k.once;
      parts = let t = sum_by-set_at parts_of s.views id v w at in let a = k.parts in let same = d.parts in omega (arith, t, a, same);
      fit = All-set (IsFit k.winners) s.views id w d.fit k.fit;
    } in
    (w, keeps, tt, kept, (refl, drawn_few (slice_set s.words 0 m) (set s.views id w) id w kept (put_at s.views id v w at), met_posted))

-- CLAIMS.

pub claims : (slots id : ℕ) (me : Me ℕ View) → 0 < me.0.parts → count_above MOST_ROOM me.0.claimed ≡ 0
    → Allows (λ s. IsKept s.words s.views) slots id me 1 (λ n. (n + 1) % 2 ^ 64) (λ found later. (later ≡ (after_claim me.0 found, me.1)) × AreFew later.0.claimed)
claims slots id me some_part none_late s k homes at word =
    let v : View = me.0 in
    let n : ℕ = slice_index s.words 1 in
    let m : ℕ = (n + 1) % 2 ^ 64 in
    let w : View = after_claim v n in
    let small = few_claims s.words s.views k in
    let next : m ≡ n + 1 = mod-eq_of_lt (omega (arith, small)) in
    let fit = All-at (IsFit k.winners) s.views id v k.fit at in
    let lt : 1 < length s.words = let z = k.sized in omega (arith, z) in
    let set_is : slice_index (slice_set s.words 1 m) 1 ≡ m = get_or-set_same s.words 1 m 0 lt in
    let other_is : slice_index (slice_set s.words 1 m) 0 ≡ slice_index s.words 0 = get_or-set_other s.words 1 0 m 0 (λ e. omega (arith, e)) in
    let fits : IsFit k.winners w = record {
      draws = fit.draws;
      claims = let one = above-le MOST_ROOM (n + 1) in omega (arith, none_late, some_part, one, sum_by-cons (above MOST_ROOM) (n + 1) v.claimed);
      met = fit.met;
      missed = fit.missed;
      part = λ no_part. absurd (omega (arith, no_part, some_part));
    } in
    let kept : IsKept (slice_set s.words 1 m) (set s.views id w) = record {
      tickets = k.tickets;
      winners = k.winners;
      sized = length-set s.words 1 m ∙ k.sized;
      visits = other_is ∙ k.visits;
      draws = λ weight. let t = sum_by-set_at (drawn_weight weight) s.views id v w at in let a = k.draws weight in omega (arith, t, a);
      claims = λ weight.
          let t = sum_by-set_at (claimed_weight weight) s.views id v w at in
          let here = sum_by-cons weight (n + 1) v.claimed in
          let is : slice_index (slice_set s.words 1 m) 1 ≡ suc n = omega (arith, set_is, next) in
          let to : sum_to weight (slice_index (slice_set s.words 1 m) 1) ≡ weight (n + 1) + sum_to weight n = ap (sum_to weight) is in
          let a = k.claims weight in omega (arith, t, a, here, to);
      wins = let t = sum_by-set_at won_of s.views id v w at in let a = k.wins in omega (arith, t, a);
      once = k.once;
      parts = let t = sum_by-set_at parts_of s.views id v w at in let a = k.parts in omega (arith, t, a);
      fit = All-set (IsFit k.winners) s.views id w fits k.fit;
    } in
    (w, keeps, tt, kept, (refl, claimed_few (slice_set s.words 1 m) (set s.views id w) id w kept (put_at s.views id v w at)))

-- POSTS.

or_ok : (winners : ℕ) → winners ≤ 1 → bit_or winners 1 ≡ 1
or_ok zero le = refl
or_ok (suc zero) le = refl
or_ok (suc (suc n)) le = absurd (omega (arith, le))

or_zero : (t : ℕ) → bit_or t 0 ≡ t
or_zero t = or_disjoint t 0 (and_zero_r t) ∙ omega arith

orred : (winners t n : ℕ) → n ≡ winners * POSTED + t → t < 2 ^ 31 → winners ≤ 1 → bit_or n POSTED ≡ 1 * POSTED + t
orred winners t n e lt le =
    ap (λ z. bit_or z POSTED) e
    ∙ (or_block 40 winners 1 t 0 (omega (arith, lt)) (omega arith)
    ∙ (ap (λ z. z * POSTED + bit_or t 0) (or_ok winners le) ∙ ap (λ z. 1 * POSTED + z) (or_zero t)))

won_now : (b : Bool) (winners found others tickets : ℕ) → found ≡ winners * POSTED + tickets → tickets < 2 ^ 31 → winners ≤ 1 → others + cond b 1 0 ≡ winners → others + cond (b || nat_lt found POSTED) 1 0 ≡ 1
won_now true zero found others tickets e few once h = absurd (omega (arith, h))
won_now true (suc winners) found others tickets e few once h = omega (arith, once, h)
won_now false zero found others tickets e few once h =
    let z : nat_lt found POSTED ≡ true = lt-ltb found POSTED (omega (arith, e, few)) in
    let one : cond {A = ℕ} (nat_lt found POSTED) 1 0 ≡ 1 = ap (λ (b : Bool). cond {A = ℕ} b 1 0) z in omega (arith, h, one)
won_now false (suc winners) found others tickets e few once h =
    let z : nat_lt found POSTED ≡ false = le-ltb found POSTED (omega (arith, e, few)) in
    let none_won : cond {A = ℕ} (nat_lt found POSTED) 1 0 ≡ 0 = ap (λ (b : Bool). cond {A = ℕ} b 1 0) z in omega (arith, h, none_won, once)

pub posts : (slots id : ℕ) (me : Me ℕ View) → 0 < me.0.parts
    → Allows (λ s. IsKept s.words s.views) slots id me 0 (λ n. bit_or n POSTED) (λ found later. (later ≡ (after_post me.0 found, me.1)) × (IsTrue me.0.met → POSTED ≤ found))
posts slots id me some_part s k homes at word =
    let v : View = me.0 in
    let n : ℕ = slice_index s.words 0 in
    let w : View = after_post v n in
    let small = few_tickets s.words s.views k in
    let m : ℕ = bit_or n POSTED in
    let is_m : m ≡ 1 * POSTED + k.tickets = orred k.winners k.tickets n k.visits small k.once in
    let fit = All-at (IsFit k.winners) s.views id v k.fit at in
    let fits : IsFit 1 w = record {
      draws = fit.draws;
      claims = fit.claims;
      met = λ _. refl;
      missed = λ e. absurd (omega (arith, e));
      part = λ no_part. absurd (omega (arith, no_part, some_part));
    } in
    let lt : 0 < length s.words = let z = k.sized in omega (arith, z) in
    let set_is : slice_index (slice_set s.words 0 m) 0 ≡ m = get_or-set_same s.words 0 m 0 lt in
    let other_is : slice_index (slice_set s.words 0 m) 1 ≡ slice_index s.words 1 = get_or-set_other s.words 0 1 m 0 (λ e. omega (arith, e)) in
    let t_won = sum_by-set_at won_of s.views id v w at in
    let a_won = sum_by-at won_of s.views id v at in
    let kw = k.wins in
    let now = won_now v.won k.winners n (sum_by won_of s.views - won_of v) k.tickets k.visits small k.once (omega (arith, a_won, kw)) in
    let kept : IsKept (slice_set s.words 0 m) (set s.views id w) = record {
      tickets = k.tickets;
      winners = 1;
      sized = length-set s.words 0 m ∙ k.sized;
      visits = set_is ∙ is_m;
      draws = λ weight. let t = sum_by-set_at (drawn_weight weight) s.views id v w at in let a = k.draws weight in omega (arith, t, a);
      claims = λ weight.
          let t = sum_by-set_at (claimed_weight weight) s.views id v w at in
          let to = ap (sum_to weight) other_is in
          let a = k.claims weight in omega (arith, t, a, to);
      wins = omega (arith, t_won, a_won, now);
      once = omega arith;
      parts = let t = sum_by-set_at parts_of s.views id v w at in let a = k.parts in omega (arith, t, a);
      fit = All-set (IsFit 1) s.views id w fits (fit_more k.winners s.views k.fit);
    } in
    let u = k.visits in
    let met_posted : IsTrue v.met → POSTED ≤ n = λ met. let one = fit.met met in omega (arith, one, u) in
    (w, keeps, tt, kept, (refl, met_posted))

-- LOOKS.

pub looks : (slots id : ℕ) (me : Me ℕ View) (i : ℕ)
    → Allows (λ s. IsKept s.words s.views) slots id me i (λ n. n) (λ found later. (later ≡ me) × AreFew later.0.drawn × AreFew later.0.claimed)
looks slots id me i s k homes at word =
    let same_words : slice_set s.words i (slice_index s.words i) ≡ s.words = set-get_or s.words i 0 in
    let same_views : set s.views id me.0 ≡ s.views = set_again s.views id me.0 at in
    let T : List ℕ → Type 0 = λ ws. IsKept ws s.views in
    let U : List View → Type 0 = λ vs. IsKept (slice_set s.words i (slice_index s.words i)) vs in
    (me.0, keeps, tt, subst U (sym same_views) (subst T (sym same_words) k), (refl, drawn_few s.words s.views id me.0 k at, claimed_few s.words s.views id me.0 k at))

-- SEATS ARE MADE AND JOINED.

pub splits : (id : ℕ) (v : View) → 1 < v.parts → count_above MOST_EXPANSIONS v.drawn + count_above MOST_EXPANSIONS v.missed ≡ 0 → count_above MOST_ROOM v.claimed ≡ 0
    → Splits (λ (s : State ℕ View). IsKept s.words s.views) id v (with_part_less v) newcomer
splits id v many none_late none_later s k at =
    let w : View = with_part_less v in
    let vs : List View = set s.views id w in
    let fit = All-at (IsFit k.winners) s.views id v k.fit at in
    let fits : IsFit k.winners w = record {
      draws = omega (arith, none_late);
      claims = omega (arith, none_later);
      met = fit.met;
      missed = fit.missed;
      part = λ no_part. absurd (omega (arith, no_part, many));
    } in
    let new_fits : IsFit k.winners newcomer = record {
      draws = omega arith;
      claims = omega arith;
      met = λ e. absurd (not_met e);
      missed = λ _. refl;
      part = λ e. absurd (omega (arith, e));
    } in record {
      tickets = k.tickets;
      winners = k.winners;
      sized = k.sized;
      visits = k.visits;
      draws = λ weight.
          let a = k.draws weight in
          let t = sum_by-set_at (drawn_weight weight) s.views id v w at in
          let u = sum_by_push (drawn_weight weight) vs newcomer in omega (arith, a, t, u);
      claims = λ weight.
          let a = k.claims weight in
          let t = sum_by-set_at (claimed_weight weight) s.views id v w at in
          let u = sum_by_push (claimed_weight weight) vs newcomer in omega (arith, a, t, u);
      wins = let a = k.wins in let t = sum_by-set_at won_of s.views id v w at in let u = sum_by_push won_of vs newcomer in omega (arith, a, t, u);
      once = k.once;
      parts = let a = k.parts in let t = sum_by-set_at parts_of s.views id v w at in let u = sum_by_push parts_of vs newcomer in omega (arith, a, t, u, many);
      fit = All-push (IsFit k.winners) vs newcomer (All-set (IsFit k.winners) s.views id w fits k.fit) new_fits;
    }

either_met : (a b : Bool) (winners : ℕ) → (IsTrue a → winners ≡ 1) → (IsTrue b → winners ≡ 1) → IsTrue (a || b) → winners ≡ 1
either_met true b winners f g h = f h
either_met false b winners f g h = g h

both_won : (a b : Bool) → cond {A = ℕ} a 1 0 + cond {A = ℕ} b 1 0 ≤ 1 → cond {A = ℕ} (a || b) 1 0 ≡ cond {A = ℕ} a 1 0 + cond {A = ℕ} b 1 0
both_won true true h = absurd (omega (arith, h))
both_won true false h = refl
both_won false b h = omega arith

nothing_missed : (xs ys : List ℕ) → xs ≡ [] → ys ≡ [] → xs ++ ys ≡ []
nothing_missed xs ys e f = ap (λ zs. zs ++ ys) e ∙ f

pub joins : (id other : ℕ) (v u : View) → 0 < v.parts → Joins (λ (s : State ℕ View). IsKept s.words s.views) id v other u (after_join v u) spent
joins id other v u some_part s k at two at' =
    let w : View = after_join v u in
    let vs : List View = set s.views id w in
    let stands = else_at s.views id other w u two at' in
    let fit = All-at (IsFit k.winners) s.views id v k.fit at in
    let other_fit = All-at (IsFit k.winners) s.views other u k.fit stands in
    let fits : IsFit k.winners w = record {
      draws = let a = fit.draws in let b = other_fit.draws in
          omega (arith, a, b, sum_by-append (above MOST_EXPANSIONS) u.drawn v.drawn, sum_by-append (above MOST_EXPANSIONS) u.missed v.missed);
      claims = let a = fit.claims in let b = other_fit.claims in omega (arith, a, b, sum_by-append (above MOST_ROOM) u.claimed v.claimed);
      met = either_met v.met u.met k.winners fit.met other_fit.met;
      missed = λ none_won. nothing_missed u.missed v.missed (other_fit.missed none_won) (fit.missed none_won);
      part = λ no_part. absurd (omega (arith, no_part, some_part));
    } in
    let spent_fits : IsFit k.winners spent = record {
      draws = omega arith;
      claims = omega arith;
      met = λ e. absurd (not_met e);
      missed = λ _. refl;
      part = λ _. refl;
    } in record {
      tickets = k.tickets;
      winners = k.winners;
      sized = k.sized;
      visits = k.visits;
      draws = λ weight.
          let a = k.draws weight in
          let t = sum_by-set_at (drawn_weight weight) s.views id v w at in
          let x = sum_by-set_at (drawn_weight weight) vs other u spent at' in
          omega (arith, a, t, x, sum_by-append weight u.drawn v.drawn, sum_by-append weight u.missed v.missed);
      claims = λ weight.
          let a = k.claims weight in
          let t = sum_by-set_at (claimed_weight weight) s.views id v w at in
          let x = sum_by-set_at (claimed_weight weight) vs other u spent at' in
          omega (arith, a, t, x, sum_by-append weight u.claimed v.claimed);
      wins =
          let a = k.wins in let once = k.once in
          let t = sum_by-set_at won_of s.views id v w at in
          let x = sum_by-set_at won_of vs other u spent at' in
          let most = sum_by-at_two won_of s.views id other v u spent refl two at stands in
          let both = both_won v.won u.won (omega (arith, most, a, once)) in omega (arith, a, t, x, both);
      once = k.once;
      parts = let a = k.parts in let t = sum_by-set_at parts_of s.views id v w at in let x = sum_by-set_at parts_of vs other u spent at' in omega (arith, a, t, x);
      fit = All-set (IsFit k.winners) vs other spent spent_fits (All-set (IsFit k.winners) s.views id w fits k.fit);
    }
