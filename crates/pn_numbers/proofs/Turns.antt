-- How many pass a test before a place, and in all.
use Rattle.std.proofs.Common.{◌≡◌, ◌<◌, ◌≤◌, ◌+◌, inl, inr, ℕ, zero, suc, List, [], ◌∷◌, Some, Bool, true, false, take, arith, refl, ◌∙◌, cond, count_by}
use Rattle.std.specs.Prelude.{slice_get}
use Rattle.std.proofs.lemmas.Bool.{cases_Bool, false_from_ne_true}
use Rattle.std.proofs.lemmas.List.Sums.{sum_by-cons}

count_no : {X : Type 0} (p : X → Bool) (x : X) (xs : List X) → p x ≡ false → count_by p (x ∷ xs) ≡ count_by p xs
count_no p x xs e = let step = sum_by-cons (λ y. cond (p y) 1 0) x xs in let none : cond {A = ℕ} (p x) 1 0 ≡ 0 = rw e refl in omega (arith, step, none)

count_yes : {X : Type 0} (p : X → Bool) (x : X) (xs : List X) → p x ≡ true → count_by p (x ∷ xs) ≡ 1 + count_by p xs
count_yes p x xs e = let step = sum_by-cons (λ y. cond (p y) 1 0) x xs in let one : cond {A = ℕ} (p x) 1 0 ≡ 1 = rw e refl in omega (arith, step, one)

-- none passes before the place
pub count_none : {X : Type 0} (p : X → Bool) (xs : List X) (place : ℕ) → ((j : ℕ) (x : X) → j < place → slice_get xs j ≡ Some x → p x ≡ false)
    → count_by p (take place xs) ≡ 0
count_none p xs zero none = refl
count_none p [] (suc i) none = refl
count_none p (x ∷ xs) (suc i) none =
    count_no p x (take i xs) (none 0 x (omega arith) refl) ∙ count_none p xs i (λ j y before at. none (suc j) y (omega (arith, before)) at)

none_in_all : {X : Type 0} (p : X → Bool) (xs : List X) → ((j : ℕ) (x : X) → slice_get xs j ≡ Some x → p x ≡ false) → count_by p xs ≡ 0
none_in_all p [] none = refl
none_in_all p (x ∷ xs) none = count_no p x xs (none 0 x refl) ∙ none_in_all p xs (λ j y at. none (suc j) y at)

elsewhere_none : {X : Type 0} (p : X → Bool) (y : X) (ys : List X) → ((j : ℕ) (z : X) → slice_get (y ∷ ys) j ≡ Some z → p z ≡ true → j ≡ 0)
    → (j : ℕ) (z : X) → slice_get ys j ≡ Some z → p z ≡ false
elsewhere_none p y ys only j z at = false_from_ne_true (p z) (λ passes. let e = only (suc j) z at passes in omega (arith, e))

-- one passes at the place, and none elsewhere
pub count_one : {X : Type 0} (p : X → Bool) (xs : List X) (place : ℕ) (x : X) → slice_get xs place ≡ Some x → p x ≡ true
    → ((j : ℕ) (y : X) → slice_get xs j ≡ Some y → p y ≡ true → j ≡ place) → count_by p xs ≡ 1
count_one p [] place x at passes only = absurd (cc)
count_one p (y ∷ ys) zero x at passes only =
    let same : p y ≡ true = cc in
    let first = count_yes p y ys same in let none = none_in_all p ys (elsewhere_none p y ys only) in omega (arith, first, none)
count_one p (y ∷ ys) (suc i) x at passes only =
    count_no p y ys (false_from_ne_true (p y) (λ here. let e = only 0 y refl here in omega (arith, e)))
    ∙ count_one p ys i x at passes (λ j z there passed. let e = only (suc j) z there passed in omega (arith, e))

-- one passes
pub count_some : {X : Type 0} (p : X → Bool) (xs : List X) (place : ℕ) (x : X) → slice_get xs place ≡ Some x → p x ≡ true → 1 ≤ count_by p xs
count_some p [] place x at passes = absurd (cc)
count_some p (y ∷ ys) zero x at passes = let same : p y ≡ true = cc in let first = count_yes p y ys same in omega (arith, first)
count_some p (y ∷ ys) (suc i) x at passes =
    let rest = count_some p ys i x at passes in
    elim (cases_Bool (p y)) [
      | inl yes_here ↦ let first = count_yes p y ys yes_here in omega (arith, first, rest)
      | inr no_here ↦ let first = count_no p y ys no_here in omega (arith, first, rest)
    ]
