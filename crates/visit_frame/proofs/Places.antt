-- What stands at the places of a list, and what is found in one.
use Rattle.std.proofs.Common.{◌≡◌, ◌==◌, ◌<◌, ℕ, zero, suc, Bool, true, false, cond, List, [], ◌∷◌, Some, None, length, ltb, refl, sym, ap, subst, ◌∙◌, arith}
use Rattle.std.specs.Prelude.{IsSome, slice_get, All}
use Rattle.std.specs.List.{find, position, position_or_len, list_all}
use Rattle.std.proofs.lemmas.Bool.{false≢true, true_from_ne_false}
use Rattle.std.proofs.lemmas.Bool.Decides.{nat_tests}
use Rattle.std.proofs.lemmas.Option.{none-some, same_Some, cond_some, slice_get_within, slice_get_past, get_or_from_slice_get}
use Rattle.std.proofs.lemmas.List.Folds.{find_at, list_all_at}

-- where something stands is within the list
pub within : {X : Type 0} (xs : List X) (i : ℕ) → IsSome (slice_get xs i) → i < length xs
within [] i h = absurd (false≢true h)
within (x ∷ xs) zero h = omega arith
within (x ∷ xs) (suc i) h = let w = within xs i h in omega arith

-- and so there is something that stands there
pub there : {X : Type 0} (xs : List X) (i : ℕ) → IsSome (slice_get xs i) → (x : X) × (slice_get xs i ≡ Some x)
there [] i h = absurd (false≢true h)
there (x ∷ xs) zero h = (x, refl)
there (x ∷ xs) (suc i) h = there xs i h

-- what holds of all holds of what stands at a place
pub all_at : {X : Type 0} (P : X → Type 0) (xs : List X) (i : ℕ) (x : X) → All P xs → slice_get xs i ≡ Some x → P x
all_at P xs i x all at = subst P (get_or_from_slice_get xs i x x at) (all i x (slice_get_within xs i x at))

passes_step : {X : Type 0} (p : X → Bool) (y x : X) (ys : List X) (b : Bool) → p y ≡ b → cond b (Some y) (find p ys) ≡ Some x
    → (find p ys ≡ Some x → p x ≡ true) → p x ≡ true
passes_step p y x ys true e h rest = subst (λ z. p z ≡ true) (same_Some y x h) e
passes_step p y x ys false e h rest = rest h

-- what is found passes the test
pub find_passes : {X : Type 0} (p : X → Bool) (xs : List X) (x : X) → find p xs ≡ Some x → p x ≡ true
find_passes p [] x h = absurd (none-some x h)
find_passes p (y ∷ ys) x h = passes_step p y x ys (p y) refl h (find_passes p ys x)

-- and stands in the list
pub find_there : {X : Type 0} (p : X → Bool) (xs : List X) (x : X) → find p xs ≡ Some x → slice_get xs (position_or_len p xs) ≡ Some x
find_there p xs x h = sym (find_at p xs) ∙ h

none_step : {X : Type 0} (p : X → Bool) (y : X) (ys : List X) (b : Bool) → p y ≡ b → cond b (Some y) (find p ys) ≡ None
    → (p y ≡ false) × (find p ys ≡ None)
none_step p y ys true e h = absurd (none-some y (sym h))
none_step p y ys false e h = (e, h)

-- where nothing is found, nothing passes
pub find_none : {X : Type 0} (p : X → Bool) (xs : List X) (i : ℕ) (x : X) → find p xs ≡ None → slice_get xs i ≡ Some x → p x ≡ false
find_none p [] i x h at = absurd (none-some x at)
find_none p (y ∷ ys) zero x h at = subst (λ z. p z ≡ false) (same_Some y x at) (none_step p y ys (p y) refl h).0
find_none p (y ∷ ys) (suc i) x h at = find_none p ys i x (none_step p y ys (p y) refl h).1 at

past_end : {X : Type 0} (p : X → Bool) (xs : List X) (b : Bool) → ltb (position_or_len p xs) (length xs) ≡ b
    → cond b (Some (position_or_len p xs)) None ≡ None → find p xs ≡ None
past_end p xs true e h = absurd (none-some (position_or_len p xs) (sym h))
past_end p xs false e h = find_at p xs ∙ slice_get_past xs (position_or_len p xs) (grind (arith, nat_tests))

-- where there is no first place, nothing passes
pub position_none : {X : Type 0} (p : X → Bool) (xs : List X) → position p xs ≡ None → find p xs ≡ None
position_none p xs h = past_end p xs (ltb (position_or_len p xs) (length xs)) refl h

-- where all pass, each does
pub list_all_each : {X : Type 0} (p : X → Bool) (xs : List X) (i : ℕ) (x : X) → list_all p xs ≡ true → slice_get xs i ≡ Some x → p x ≡ true
list_all_each p xs i x all at = true_from_ne_false (p x) (λ no. false≢true (
    sym (list_all_at p xs i x (slice_get_within xs i x at) (ap p (get_or_from_slice_get xs i x x at) ∙ no)) ∙ all))

exists_at : {X : Type 0} (xs : List X) (i : ℕ) → i < length xs → (x : X) × (slice_get xs i ≡ Some x)
exists_at [] i h = absurd (omega arith)
exists_at (x ∷ xs) zero h = (x, refl)
exists_at (x ∷ xs) (suc i) h = exists_at xs i (omega arith)

lt_from : (m n : ℕ) → ltb m n ≡ true → m < n
lt_from m n h = grind (arith, nat_tests)

-- something stands at the first place
pub position_there : {X : Type 0} (p : X → Bool) (xs : List X) (i : ℕ) → position p xs ≡ Some i → (x : X) × (slice_get xs i ≡ Some x)
position_there p xs i h =
    let two = cond_some (ltb (position_or_len p xs) (length xs)) (position_or_len p xs) i h in
    exists_at xs i (subst (λ (n : ℕ). n < length xs) two.1 (lt_from (position_or_len p xs) (length xs) two.0))

-- a length that is 0, by its test
pub empty_if : (n : ℕ) (b : Bool) → b ≡ true → b ≡ (n == 0) → n ≡ 0
empty_if n b h is = grind (arith, nat_tests)

-- and one that isn't
pub some_if : (n : ℕ) (b : Bool) → b ≡ false → b ≡ (n == 0) → 0 < n
some_if n b h is = grind (arith, nat_tests)
