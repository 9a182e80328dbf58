-- Sums over views, one of which is told by its place, and how often a word stands in a list.
use Rattle.std.proofs.Common.{◌≡◌, ◌≢◌, ℕ, zero, suc, ◌+◌, ◌*◌, ◌<◌, ◌≤◌, ◌==◌, true, false, Bool, List, [], ◌∷◌, ◌++◌, length, sym, refl, ap, ◌∙◌, subst, cond, arith, eqb-true, ne_eqb, eq-eqb}
use Rattle.std.specs.Prelude.{All, sum_by, slice_get, Some}
use Rattle.std.proofs.lemmas.Bool.{eqb-false}
use Rattle.std.proofs.lemmas.List.Sums.{sum_by-cons, sum_by-append, count_by-le-length}
use Rattle.std.proofs.lemmas.List.Elements.{All-head, All-tail}
use mathlib.Core.Option.{some, some-ne-none, some-injective}
use lib.ListN.{get_elem?}
use Rattle.view_sums.proofs.Views.{sum_by-at}
use Rattle.worker_counts.specs.declared.view.TheConstants.{MOST_ADDED}
use Rattle.worker_counts.specs.declared.view.View.{View}
use Rattle.worker_counts.specs.Counts.{times, without_one, AreBelow, IsFit}

-- how often a word stands in a list with one more in front
pub times-cons : (word each : ℕ) (words : List ℕ) → times word (each ∷ words) ≡ cond (each == word) 1 0 + times word words
times-cons word each words = sum_by-cons (λ (n : ℕ). cond (n == word) 1 0) each words

pub times-append : (word : ℕ) (xs ys : List ℕ) → times word (xs ++ ys) ≡ times word xs + times word ys
times-append word xs ys = sum_by-append (λ (n : ℕ). cond (n == word) 1 0) xs ys

pub times-same : (word : ℕ) (words : List ℕ) → times word (word ∷ words) ≡ 1 + times word words
times-same word words =
    let one : ◌≡◌ {A = ℕ} (cond (word == word) 1 0) 1 = ap (λ (b : Bool). cond {A = ℕ} b 1 0) (eq-eqb word word refl) in
    omega (arith, times-cons word word words, one)

pub times-other : (word each : ℕ) (words : List ℕ) → each ≢ word → times word (each ∷ words) ≡ times word words
times-other word each words apart =
    let none : ◌≡◌ {A = ℕ} (cond (each == word) 1 0) 0 = ap (λ (b : Bool). cond {A = ℕ} b 1 0) (ne_eqb each word apart) in
    omega (arith, times-cons word each words, none)

-- what one view adds to a word is bounded by its parts
fit_by_parts : (word : ℕ) (v : View) → IsFit v → (n : ℕ) → v.parts ≡ n → times word v.added ≤ MOST_ADDED * v.parts
fit_by_parts word v fit zero e = let none : times word v.added ≡ 0 = ap (times word) (fit.part e) in omega (arith, none)
fit_by_parts word v fit (suc n) e =
    let most = count_by-le-length (λ (each : ℕ). each == word) v.added in
    let few = fit.few in
    omega (arith, most, few, e)

-- what all views add to a word is bounded by their parts
pub sum_fits : (word : ℕ) (views : List View) → All IsFit views → sum_by (λ v. times word v.added) views ≤ MOST_ADDED * sum_by (λ v. v.parts) views
sum_fits word [] fit = omega arith
sum_fits word (v ∷ vs) fit =
    let here = fit_by_parts word v (All-head IsFit v vs fit) v.parts refl in
    let others = sum_fits word vs (All-tail IsFit v vs fit) in
    let counts = sum_by-cons (λ (u : View). times word u.added) v vs in
    let parts = sum_by-cons (λ (u : View). u.parts) v vs in
    omega (arith, here, others, counts, parts)

taken_cases : (word each : ℕ) (others : List ℕ) (b : Bool) → (each == word) ≡ b → 0 < cond b 1 0 + times word others
    → (0 < times word others → times word (without_one word others) + 1 ≡ times word others)
    → times word (cond b others (each ∷ without_one word others)) + 1 ≡ cond b 1 0 + times word others
taken_cases word each others true e has more = omega arith
taken_cases word each others false e has more =
    let none : ◌≡◌ {A = ℕ} (cond (each == word) 1 0) 0 = ap (λ (b : Bool). cond {A = ℕ} b 1 0) e in
    let rest = more (omega (arith, has)) in
    omega (arith, times-cons word each (without_one word others), none, rest)

-- one is taken away, if there is one
pub times-without_one : (word : ℕ) (words : List ℕ) → 0 < times word words → times word (without_one word words) + 1 ≡ times word words
times-without_one word [] has = absurd (omega (arith, has))
times-without_one word (each ∷ others) has =
    let here = times-cons word each others in
    let taken = taken_cases word each others (each == word) refl (omega (arith, has, here)) (times-without_one word others) in
    omega (arith, here, taken)

kept_cases : (word other each : ℕ) (others : List ℕ) (b : Bool) → (each == word) ≡ b → other ≢ word
    → times other (without_one word others) ≡ times other others
    → times other (cond b others (each ∷ without_one word others)) ≡ times other (each ∷ others)
kept_cases word other each others true e apart same =
    let is : each ≡ word = eqb-true each word e in
    sym (times-other other each others (λ z. apart (sym z ∙ is)))
kept_cases word other each others false e apart same =
    omega (arith, times-cons other each others, times-cons other each (without_one word others), same)

-- other words are kept
pub times-without_another : (word other : ℕ) (words : List ℕ) → other ≢ word → times other (without_one word words) ≡ times other words
times-without_another word other [] apart = refl
times-without_another word other (each ∷ others) apart = kept_cases word other each others (each == word) refl apart (times-without_another word other others apart)

length_cases : (word each : ℕ) (others : List ℕ) (b : Bool) → length (without_one word others) ≤ length others → length (cond b others (each ∷ without_one word others)) ≤ length others + 1
length_cases word each others true h = omega arith
length_cases word each others false h = omega (arith, h)

pub length-without_one-le : (word : ℕ) (words : List ℕ) → length (without_one word words) ≤ length words
length-without_one-le word [] = omega arith
length-without_one-le word (each ∷ others) = let p = length_cases word each others (each == word) (length-without_one-le word others) in omega (arith, p)

-- where the views have no part, they add nothing to a word
idle_sum : (word : ℕ) (views : List View) → All IsFit views → sum_by (λ v. v.parts) views ≡ 0 → sum_by (λ v. times word v.added) views ≡ 0
idle_sum word [] fit none = refl
idle_sum word (v ∷ vs) fit none =
    let counts = sum_by-cons (λ (u : View). times word u.added) v vs in
    let parts = sum_by-cons (λ (u : View). u.parts) v vs in
    let here : times word v.added ≡ 0 = ap (times word) ((All-head IsFit v vs fit).part (omega (arith, parts, none))) in
    let others = idle_sum word vs (All-tail IsFit v vs fit) (omega (arith, parts, none)) in
    omega (arith, counts, here, others)

-- where one view has all parts, a word is what that one adds to it
pub alone : (word : ℕ) (views : List View) (id : ℕ) (v : View) → All IsFit views → get_elem? views id ≡ some v → sum_by (λ u. u.parts) views ≡ v.parts
    → sum_by (λ u. times word u.added) views ≡ times word v.added
alone word [] id v fit at e = absurd (some-ne-none v (sym at))
alone word (x ∷ xs) zero v fit at e =
    let is : x ≡ v = some-injective x v at in
    let same_parts : x.parts ≡ v.parts = ap (λ (u : View). u.parts) is in
    let same : times word x.added ≡ times word v.added = ap (λ (u : View). times word u.added) is in
    let counts = sum_by-cons (λ (u : View). times word u.added) x xs in
    let parts = sum_by-cons (λ (u : View). u.parts) x xs in
    let others = idle_sum word xs (All-tail IsFit x xs fit) (omega (arith, e, same_parts, parts)) in
    omega (arith, counts, same, others)
alone word (x ∷ xs) (suc id) v fit at e =
    let counts = sum_by-cons (λ (u : View). times word u.added) x xs in
    let parts = sum_by-cons (λ (u : View). u.parts) x xs in
    let most = sum_by-at (λ (u : View). u.parts) xs id v at in
    let here : times word x.added ≡ 0 = ap (times word) ((All-head IsFit x xs fit).part (omega (arith, e, parts, most))) in
    let others = alone word xs id v (All-tail IsFit x xs fit) at (omega (arith, e, parts, most)) in
    omega (arith, counts, here, others)

-- what a table tells of a place is what a contract calls it
pub slice_get-at : (xs : List ℕ) (i x : ℕ) → get_elem? xs i ≡ some x → slice_get xs i ≡ Some x
slice_get-at [] i x e = absurd (some-ne-none x (sym e))
slice_get-at (y ∷ ys) zero x e = ap Some (some-injective y x e)
slice_get-at (y ∷ ys) (suc i) x e = slice_get-at ys i x e

shorter_cases : (word each : ℕ) (others : List ℕ) (b : Bool) → (each == word) ≡ b → 0 < cond b 1 0 + times word others
    → (0 < times word others → length (without_one word others) + 1 ≡ length others)
    → length (cond b others (each ∷ without_one word others)) + 1 ≡ length others + 1
shorter_cases word each others true e has more = refl
shorter_cases word each others false e has more = let p = more (omega (arith, has)) in omega (arith, p)

pub length-without_one : (word : ℕ) (words : List ℕ) → 0 < times word words → length (without_one word words) + 1 ≡ length words
length-without_one word [] has = absurd (omega (arith, has))
length-without_one word (each ∷ others) has =
    let here = times-cons word each others in
    let p = shorter_cases word each others (each == word) refl (omega (arith, has, here)) (length-without_one word others) in
    omega (arith, p)

less_cases : (word each : ℕ) (words : List ℕ) (b : Bool) → (each == word) ≡ b → 0 < times each words
    → times word (without_one each words) + cond b 1 0 ≡ times word words
less_cases word each words true e has =
    let is : each ≡ word = eqb-true each word e in
    let T : ℕ → Type 0 = λ z. times z (without_one each words) + 1 ≡ times z words in
    subst T is (times-without_one each words has)
less_cases word each words false e has =
    let apart : word ≢ each = λ z. eqb-false each word e (sym z) in
    let p = times-without_another each word words apart in omega (arith, p)

pub times-less : (word each : ℕ) (words : List ℕ) → 0 < times each words → times word (without_one each words) + cond (each == word) 1 0 ≡ times word words
times-less word each words has = less_cases word each words (each == word) refl has

pub empty-times : (words : List ℕ) → ((word : ℕ) → times word words ≡ 0) → words ≡ []
empty-times [] zeros = refl
empty-times (each ∷ others) zeros = absurd (let p = times-same each others in let q = zeros each in omega (arith, p, q))

-- no word from the number of words on is added, and none is taken away
pub below-cons : (size each : ℕ) (words : List ℕ) → each < size → AreBelow size words → AreBelow size (each ∷ words)
below-cons size each words low below word high =
    times-other word each words (λ same. absurd (omega (arith, low, high, same))) ∙ below word high

pub below-less : (size each : ℕ) (words : List ℕ) → 0 < times each words → AreBelow size words → AreBelow size (without_one each words)
below-less size each words has below word high =
    let less = times-less word each words has in
    let none = below word high in
    omega (arith, less, none)

pub below-append : (size : ℕ) (words others : List ℕ) → AreBelow size words → AreBelow size others → AreBelow size (others ++ words)
below-append size words others below below_too word high =
    let both = times-append word others words in
    let one = below word high in
    let other = below_too word high in
    omega (arith, both, one, other)
