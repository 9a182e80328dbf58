-- Sums over lists, one element of which is told by its place: what the views of several threads
-- come to.
use Rattle.std.proofs.Common.{◌≡◌, ℕ, zero, suc, ◌+◌, ◌<◌, ◌≤◌, List, [], ◌∷◌, length, set, get_or, sym, subst, arith}
use Rattle.std.specs.Prelude.{All, sum_by}
use Rattle.std.proofs.lemmas.List.Sums.{sum_by-set, get_or-le-sum_by}
use mathlib.Core.Option.{some, some-ne-none, some-injective}
use lib.ListN.{get_elem?}

-- what stands at a place stands there whatever would stand past the end
pub there : {X : Type 0} (xs : List X) (i : ℕ) (x : X) → get_elem? xs i ≡ some x → (i < length xs) × (get_or xs i x ≡ x)
there [] i x e = absurd (some-ne-none x (sym e))
there (y ∷ ys) zero x e = (omega arith, some-injective y x e)
there (y ∷ ys) (suc i) x e = let t = there ys i x e in (omega (arith, t.0), t.1)

pub sum_by-at : {X : Type 0} (f : X → ℕ) (xs : List X) (i : ℕ) (x : X) → get_elem? xs i ≡ some x → f x ≤ sum_by f xs
sum_by-at {X} f xs i x e =
    let t = there xs i x e in
    let P : X → Type 0 = λ z. f z ≤ sum_by f xs in
    subst P t.1 (get_or-le-sum_by f xs i x t.0)

pub sum_by-set_at : {X : Type 0} (f : X → ℕ) (xs : List X) (i : ℕ) (x y : X) → get_elem? xs i ≡ some x → sum_by f (set xs i y) + f x ≡ sum_by f xs + f y
sum_by-set_at {X} f xs i x y e =
    let t = there xs i x e in
    let P : X → Type 0 = λ z. sum_by f (set xs i y) + f z ≡ sum_by f xs + f y in
    subst P t.1 (sum_by-set f xs i y x t.0)

pub All-at : {X : Type 0} (P : X → Type 0) (xs : List X) (i : ℕ) (x : X) → All P xs → get_elem? xs i ≡ some x → P x
All-at P xs i x all e = let t = there xs i x e in subst P t.1 (all i x t.0)
