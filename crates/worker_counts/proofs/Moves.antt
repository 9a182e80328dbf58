-- Each kind of step keeps the rule.
use Rattle.std.proofs.Common.{◌≡◌, ◌≢◌, ℕ, ◌+◌, ◌-◌, ◌%◌, ◌^◌, ◌<◌, ◌≤◌, List, length, set, slice_index, slice_set, replicate, sym, refl, ap, ◌∙◌, subst, arith, length-set, length-append, mod-eq_of_lt}
use Rattle.std.specs.Prelude.{sum_by}
use Rattle.std.proofs.Math.Nat.{add-mod_right}
use Rattle.std.proofs.lemmas.List.{get_or-set_same, get_or-set_other, get_or-replicate, length-replicate, ext_get_or}
use Rattle.std.proofs.lemmas.List.Sums.{sum_by_push}
use Rattle.std.proofs.lemmas.List.Elements.{All-set, All-push}
use mathlib.Core.Option.{some}
use mathlib.Core.Logic.{dite}
use native.Mathlib.Decide.{ℕ_discrete}
use lib.ListN.{get_elem?}
use Rattle.atomic_table.specs.Table.{State, Me, Allows, Splits, Joins, Final, Seen, keeps}
use Rattle.worker_counts.specs.declared.view.TheConstants.{MOST_SEATS, MOST_ADDED}
use Rattle.worker_counts.specs.declared.view.View.{View}
use Rattle.worker_counts.specs.Counts.{times, newcomer, spent, after_load, after_add, after_subtract, after_join, with_part_less, IsFit, IsKept}
use Rattle.view_sums.proofs.Views.{sum_by-at, sum_by-set_at, All-at}
use Rattle.worker_counts.proofs.Views.{times-same, times-other, times-append, sum_fits, times-without_one, times-without_another, length-without_one-le, alone}

abbrev added_of : ℕ → View → ℕ
added_of word v = times word v.added

abbrev parts_of : View → ℕ
parts_of v = v.parts

-- a change of one view and of one word keeps the rule, where they fit
moved : (size : ℕ) (words : List ℕ) (views : List View) (id i : ℕ) (v w : View) (m : ℕ)
    → IsKept size words views → get_elem? views id ≡ some v → i < size → w.parts ≡ v.parts → IsFit w
    → m + added_of i v ≡ slice_index words i + added_of i w
    → ((j : ℕ) → j ≢ i → added_of j w ≡ added_of j v)
    → IsKept size (slice_set words i m) (set views id w)
moved size words views id i v w m k at lt parts fit here others = record {
  sized = length-set words i m ∙ k.sized;
  counts = λ j below.
      let old = k.counts j below in
      let lti : i < length words = omega (arith, k.sized, lt) in
      dite (ℕ_discrete j i)
      (λ e. let now : slice_index (slice_set words i m) i ≡ m = get_or-set_same words i m 0 lti in
      let T : ℕ → Type 0 = λ z. slice_index (slice_set words i m) z ≡ sum_by (added_of z) (set views id w) in
      let there = sum_by-set_at (added_of i) views id v w at in
      let was = k.counts i lt in
      subst T (sym e) (omega (arith, now, there, was, here)))
      (λ n. let now : slice_index (slice_set words i m) j ≡ slice_index words j = get_or-set_other words i j m 0 n in
      let there = sum_by-set_at (added_of j) views id v w at in
      let same = others j n in omega (arith, now, there, old, same));
  parts = let p = sum_by-set_at parts_of views id v w at in let q = k.parts in omega (arith, p, q, parts);
  fit = All-set IsFit views id w fit k.fit;
}

pub loads : (size slots id : ℕ) (me : Me ℕ View) (i : ℕ) → i < size
    → Allows (λ s. IsKept size s.words s.views) slots id me i (λ n. n) (λ n later. (later ≡ (after_load me.0 i n, me.1)) × (times i me.0.added ≤ n))
loads size slots id me i lt s k homes at word =
    let w : View = after_load me.0 i (slice_index s.words i) in
    let all = sum_by-at (added_of i) s.views id me.0 at in
    let c = k.counts i lt in
    let fit = All-at IsFit s.views id me.0 k.fit at in
    let fits : IsFit w = record { few = fit.few; part = fit.part } in (
      w,
      keeps,
      tt,
      moved size s.words s.views id i me.0 w (slice_index s.words i) k at lt refl fits refl (λ j n. refl),
      (refl, omega (arith, all, c)),
    )

pub adds : (size slots id : ℕ) (me : Me ℕ View) (i : ℕ) → i < size → 0 < me.0.parts → length me.0.added < MOST_ADDED
    → Allows (λ s. IsKept size s.words s.views) slots id me i (λ n. (n + 1) % 2 ^ 64) (λ n later. (later ≡ (after_add me.0 i n, me.1)) × (times i me.0.added ≤ n))
adds size slots id me i lt some_part room s k homes at word =
    let n : ℕ = slice_index s.words i in
    let w : View = after_add me.0 i n in
    let all = sum_by-at (added_of i) s.views id me.0 at in
    let c = k.counts i lt in
    let b = sum_fits i s.views k.fit in
    let p = k.parts in
    let fits : (n + 1) % 2 ^ 64 ≡ n + 1 = mod-eq_of_lt (omega (arith, c, b, p)) in
    let fit : IsFit w = record { few = omega (arith, room); part = λ none. absurd (omega (arith, none, some_part)) } in (
      w,
      keeps,
      tt,
      moved size s.words s.views id i me.0 w ((n + 1) % 2 ^ 64) k at lt refl fit
          (let one = times-same i me.0.added in omega (arith, one, fits))
          (λ j n. times-other j i me.0.added (λ z. n (sym z))),
      (refl, omega (arith, all, c)),
    )

less : (n : ℕ) → 0 < n → n < 2 ^ 64 → ((n + (2 ^ 64 - 1)) % 2 ^ 64) + 1 ≡ n
less n some_left fits =
    let back : n + (2 ^ 64 - 1) ≡ (n - 1) + 2 ^ 64 = omega (arith, some_left) in
    let e : (n + (2 ^ 64 - 1)) % 2 ^ 64 ≡ n - 1 = ap (λ z. z % 2 ^ 64) back ∙ (add-mod_right (n - 1) (2 ^ 64) ∙ mod-eq_of_lt (omega (arith, fits))) in
    omega (arith, e, some_left)

pub subtracts : (size slots id : ℕ) (me : Me ℕ View) (i : ℕ) → i < size → 0 < times i me.0.added
    → Allows (λ s. IsKept size s.words s.views) slots id me i (λ n. (n + (2 ^ 64 - 1)) % 2 ^ 64) (λ n later. (later ≡ (after_subtract me.0 i n, me.1)) × (times i me.0.added ≤ n))
subtracts size slots id me i lt there s k homes at word =
    let n : ℕ = slice_index s.words i in
    let w : View = after_subtract me.0 i n in
    let c = k.counts i lt in
    let all = sum_by-at (added_of i) s.views id me.0 at in
    let fit = All-at IsFit s.views id me.0 k.fit at in
    let one_less = less n (omega (arith, c, all, there)) word in
    let taken = times-without_one i me.0.added there in
    let short = length-without_one-le i me.0.added in
    let few = fit.few in
    let fits : IsFit w = record {
      few = omega (arith, short, few);
      part = λ none. let gone : times i me.0.added ≡ 0 = ap (times i) (fit.part none) in absurd (omega (arith, gone, there));
    } in (
      w,
      keeps,
      tt,
      moved size s.words s.views id i me.0 w ((n + (2 ^ 64 - 1)) % 2 ^ 64) k at lt refl fits (omega (arith, one_less, taken)) (λ j n. times-without_another i j me.0.added n),
      (refl, omega (arith, all, c)),
    )

pub splits : (size id : ℕ) (v : View) → 1 < v.parts → Splits (λ (s : State ℕ View). IsKept size s.words s.views) id v (with_part_less v) newcomer
splits size id v many s k at =
    let w : View = with_part_less v in
    let vs : List View = set s.views id w in
    let fit = All-at IsFit s.views id v k.fit at in
    let fits : IsFit w = record { few = fit.few; part = λ none. absurd (omega (arith, none, many)) } in
    let new_fits : IsFit newcomer = record { few = omega arith; part = λ none. absurd (omega (arith, none)) } in record {
      sized = k.sized;
      counts = λ j below.
          let c = k.counts j below in let t = sum_by-set_at (added_of j) s.views id v w at in let u = sum_by_push (added_of j) vs newcomer in omega (arith, c, t, u);
      parts = let p = k.parts in let t = sum_by-set_at parts_of s.views id v w at in let u = sum_by_push parts_of vs newcomer in omega (arith, p, t, u, many);
      fit = All-push IsFit vs newcomer (All-set IsFit s.views id w fits k.fit) new_fits;
    }

pub joins : (size id other : ℕ) (v u : View) → 0 < v.parts → length u.added + length v.added ≤ MOST_ADDED
    → Joins (λ (s : State ℕ View). IsKept size s.words s.views) id v other u (after_join v u) spent
joins size id other v u some_part room s k at two at' =
    let w : View = after_join v u in
    let vs : List View = set s.views id w in
    let fits : IsFit w = record { few = omega (arith, room, length-append u.added v.added); part = λ none. absurd (omega (arith, none, some_part)) } in
    let spent_fits : IsFit spent = record { few = omega arith; part = λ none. refl } in record {
      sized = k.sized;
      counts = λ j below.
          let c = k.counts j below in let t = sum_by-set_at (added_of j) s.views id v w at in let x = sum_by-set_at (added_of j) vs other u spent at' in
          let both = times-append j u.added v.added in omega (arith, c, t, x, both);
      parts = let p = k.parts in let t = sum_by-set_at parts_of s.views id v w at in let x = sum_by-set_at parts_of vs other u spent at' in omega (arith, p, t, x);
      fit = All-set IsFit vs other spent spent_fits (All-set IsFit s.views id w fits k.fit);
    }

-- where the last view has every part, each word is how often it stands among what that one has
-- added
pub closes : (size id : ℕ) (v : View) (words slots : List ℕ) → v.parts ≡ MOST_SEATS
    → Final (Seen (λ (s : State ℕ View). IsKept size s.words s.views) id v) words slots
    → (word : ℕ) → word < size → slice_index words word ≡ times word v.added
closes size id v words slots every f word lt =
    let s : State ℕ View = f.0 in
    let k : IsKept size s.words s.views = f.1.0 in
    let is : s.words ≡ words = f.2 in
    let e = k.parts in
    sym (ap (λ z. slice_index z word) is) ∙ (k.counts word lt ∙ alone word s.views id v k.fit f.1.1 (omega (arith, e, every)))

-- there are still as many words
pub closes_all : (size id : ℕ) (v : View) (words slots : List ℕ) → Final (Seen (λ (s : State ℕ View). IsKept size s.words s.views) id v) words slots → length words ≡ size
closes_all size id v words slots f = let k : IsKept size f.0.words f.0.views = f.1.0 in ap length (sym f.2) ∙ k.sized

-- a list of zeros, told by its length and its numbers
pub all_zero : (words : List ℕ) (size : ℕ) → length words ≡ size → ((word : ℕ) → word < size → slice_index words word ≡ 0) → words ≡ replicate size 0
all_zero words size len each =
    let alike : length words ≡ length {A = ℕ} (replicate size 0) = len ∙ sym (length-replicate size 0) in
    ext_get_or 0 words (replicate size 0) alike (λ word below.
    let lt : word < size = omega (arith, below, len) in
    each word lt ∙ sym (get_or-replicate size word 0 0 lt))
