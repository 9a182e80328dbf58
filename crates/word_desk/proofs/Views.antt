-- Sums over views, one or two of which are told by their places.
use Rattle.std.proofs.Common.{◌≡◌, ℕ, zero, suc, ◌+◌, ◌≤◌, List, [], ◌∷◌, set, slice_index, sym, ◌∙◌, arith}
use Rattle.std.specs.Prelude.{All, sum_by}
use Rattle.std.proofs.lemmas.List.Sums.{sum_by-cons}
use Rattle.std.proofs.lemmas.List.Elements.{All-head, All-tail}
use Rattle.atomic_table.proofs.Lists.{set_else}
use Rattle.view_sums.proofs.Views.{sum_by-at, sum_by-set_at}
use mathlib.Core.Option.{some, some-ne-none, some-injective}
use lib.ListN.{get_elem?}

-- another place has what it had
pub else_at : {X : Type 0} (xs : List X) (i j : ℕ) (x y : X) → ¬ (j ≡ i) → get_elem? (set xs i x) j ≡ some y → get_elem? xs j ≡ some y
else_at xs i j x y apart e = sym (set_else xs i j x apart) ∙ e

-- two elements count together
pub sum_by-at_two : {X : Type 0} (f : X → ℕ) (xs : List X) (i j : ℕ) (x y z : X) → f z ≡ 0 → ¬ (j ≡ i) → get_elem? xs i ≡ some x → get_elem? xs j ≡ some y → f x + f y ≤ sum_by f xs
sum_by-at_two f xs i j x y z none apart at at' =
    let one = sum_by-set_at f xs i x z at in
    let other = sum_by-at f (set xs i z) j y (set_else xs i j z apart ∙ at') in
    omega (arith, none, one, other)

pub sum_by-le-all : {X : Type 0} (P : X → Type 0) (f g : X → ℕ) → ((x : X) → P x → f x ≤ g x) → (xs : List X) → All P xs → sum_by f xs ≤ sum_by g xs
sum_by-le-all P f g le [] all = omega arith
sum_by-le-all P f g le (x ∷ xs) all =
    let here = le x (All-head P x xs all) in
    let others = sum_by-le-all P f g le xs (All-tail P x xs all) in
    omega (arith, here, others, sum_by-cons f x xs, sum_by-cons g x xs)

-- what a table tells of a place is what a contract calls it
pub slice_index-at : (xs : List ℕ) (i x : ℕ) → get_elem? xs i ≡ some x → slice_index xs i ≡ x
slice_index-at [] i x e = absurd (some-ne-none x (sym e))
slice_index-at (y ∷ ys) zero x e = some-injective y x e
slice_index-at (y ∷ ys) (suc i) x e = slice_index-at ys i x e
