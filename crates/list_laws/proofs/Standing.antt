-- Where the elements of a list stand.
use Rattle.std.proofs.Common.{◌≡◌, ◌<◌, ◌≤◌, ◌+◌, ◌++◌, ◌⊎◌, inl, inr, ℕ, zero, suc, List, [], ◌∷◌, get_or, length, map, take, Contains, arith, ap, sym, refl, ◌∙◌, subst, length-take, get_or-take, below_more, Bool, true, false, if◌then◌else◌}
use Rattle.std.specs.Prelude.{Some, slice_get}
use Rattle.std.specs.Option.{option_map}
use Rattle.std.proofs.lemmas.Bool.{cases_eq}
use Rattle.std.proofs.lemmas.Option.{get_or_from_slice_get, slice_get_within, slice_get_read, slice_get-get_or, slice_get-map, same_Some}
use Rattle.std.specs.List.{All}
use Rattle.std.proofs.lemmas.List.Elements.{All-push}

-- 1. What stands at a place is contained, and what is contained stands at a place.

pub contained : {X : Type 0} (xs : List X) (k : ℕ) (x : X) → slice_get xs k ≡ Some x → Contains xs x
contained xs k x e = (k, slice_get_within xs k x e, get_or_from_slice_get xs k x x e)

pub at_place : {X : Type 0} (xs : List X) (x : X) (c : Contains xs x) → slice_get xs c.0 ≡ Some x
at_place xs x c = slice_get_read xs (length xs) c.0 x refl c.1 (sym c.2)

-- what stands at one of the first so many places is one of the first so many
pub contained_first : {X : Type 0} (xs : List X) (n k : ℕ) (x : X) → k < n → slice_get xs k ≡ Some x → Contains (take n xs) x
contained_first xs n k x below e =
    let inside = slice_get_within xs k x e in
    (k, omega (arith, length-take n xs), get_or-take n xs k x below ∙ get_or_from_slice_get xs k x x e)

-- an item of a list is one of the list that it is
pub item_of : {X : Type 0} (items xs : List X) (n : ℕ) (x : X) → items ≡ xs → n < length items → x ≡ get_or items n x → Contains xs x
item_of {X} items xs n x same inside is = subst (λ (ys : List X). Contains ys x) same (n, inside, sym is)

-- what is made of what stands at a place
pub from_map : {X Y : Type 0} (f : X → Y) (xs : List X) (k : ℕ) (y : Y) → slice_get (map f xs) k ≡ Some y
    → (x : X) × (slice_get xs k ≡ Some x) × (f x ≡ y)
from_map f [] k y e = absurd (cc)
from_map f (x ∷ xs) zero y e = (x, refl, same_Some (f x) y e)
from_map f (x ∷ xs) (suc k) y e = from_map f xs k y e

pub contains_map : {X Y : Type 0} (f : X → Y) (xs : List X) (x : X) → Contains xs x → Contains (map f xs) (f x)
contains_map f xs x c = contained (map f xs) c.0 (f x) (slice_get-map f xs c.0 ∙ ap (option_map f) (at_place xs x c))

-- what one of two lists has, of which the second has nothing, the first has
pub in_first : {X : Type 0} (xs : List X) (x : X) → Contains xs x ⊎ Contains [] x → Contains xs x
in_first xs x (inl h) = h
in_first xs x (inr h) = let w = h.1 in absurd (omega arith)

-- 2. One more is put behind: the others stay where they are, and it stands last.

pub get_kept : {X : Type 0} (xs : List X) (y : X) (k : ℕ) (x : X) → slice_get xs k ≡ Some x → slice_get (xs ++ y ∷ []) k ≡ Some x
get_kept [] y k x e = absurd (cc)
get_kept (z ∷ xs) y zero x e = e
get_kept (z ∷ xs) y (suc k) x e = get_kept xs y k x e

pub get_before : {X : Type 0} (xs : List X) (y : X) (k : ℕ) → k < length xs → slice_get (xs ++ y ∷ []) k ≡ slice_get xs k
get_before xs y k inside = let e = slice_get-get_or xs k y inside in get_kept xs y k (get_or xs k y) e ∙ sym e

pub get_last : {X : Type 0} (xs : List X) (y : X) → slice_get (xs ++ y ∷ []) (length xs) ≡ Some y
get_last [] y = refl
get_last (z ∷ xs) y = get_last xs y

pub get_cases : {X : Type 0} (xs : List X) (y : X) (k : ℕ) (x : X) → slice_get (xs ++ y ∷ []) k ≡ Some x
    → (slice_get xs k ≡ Some x) ⊎ ((k ≡ length xs) × (y ≡ x))
get_cases [] y zero x e = inr (refl, (cc))
get_cases [] y (suc k) x e = absurd (cc)
get_cases (z ∷ xs) y zero x e = inl e
get_cases (z ∷ xs) y (suc k) x e = elim (get_cases xs y k x e) [ inl old ↦ inl old | inr new ↦ inr (ap suc new.0, new.1) ]

-- where nothing stands twice, nothing does with one more that is new
pub apart_more : {X : Type 0} (xs : List X) (y : X)
    → ((i j : ℕ) (x : X) → slice_get xs i ≡ Some x → slice_get xs j ≡ Some x → i ≡ j) → ¬ Contains xs y
    → (i j : ℕ) (x : X) → slice_get (xs ++ y ∷ []) i ≡ Some x → slice_get (xs ++ y ∷ []) j ≡ Some x → i ≡ j
apart_more {X} xs y apart new i j x e f = elim (get_cases xs y i x e) [
  | inl old ↦ elim (get_cases xs y j x f) [
    | inl older ↦ apart i j x old older
    | inr last ↦ absurd (new (subst (Contains xs) (sym last.1) (contained xs i x old)))
  ]
  | inr first ↦ elim (get_cases xs y j x f) [
    | inl older ↦ absurd (new (subst (Contains xs) (sym first.1) (contained xs j x older)))
    | inr last ↦ first.0 ∙ sym last.0
  ]
]

-- 3. The items are gone through in order.

-- one item further
pub more : {X : Type 0} (P : X → Type 0) (items : List X) (n : ℕ) (x : X) → slice_get items n ≡ Some x → P x
    → ((k : ℕ) (y : X) → k < n → slice_get items k ≡ Some y → P y)
    → (k : ℕ) (y : X) → k < n + 1 → slice_get items k ≡ Some y → P y
more {X} P items n x is holds below k y less at = elim (cases_eq k n) [
  | inl same ↦ subst P (same_Some x y (sym is ∙ subst (λ (q : ℕ). slice_get items q ≡ Some y) same at)) holds
  | inr earlier ↦ below k y (omega arith) at
]

-- what holds of all items holds of each of the list that they are
pub of_all : {X : Type 0} (P : X → Type 0) (items xs : List X) (n : ℕ) → items ≡ xs → length items ≤ n
    → ((k : ℕ) (y : X) → k < n → slice_get items k ≡ Some y → P y) → (x : X) → Contains xs x → P x
of_all {X} P items xs n same all below x there =
    let c = subst (λ (ys : List X). Contains ys x) (sym same) there in
    let inside = c.1 in
    below c.0 x (omega arith) (at_place items x c)

-- one item further, where an item is read with itself for want of one
pub each_more : {X : Type 0} (P : X → Type 0) (xs : List X) (i : ℕ) (x : X) → i < length xs → x ≡ get_or xs i x → P x
    → ((k : ℕ) (a : X) → k < i → get_or xs k a ≡ a → P a)
    → (k : ℕ) (a : X) → k < i + 1 → get_or xs k a ≡ a → P a
each_more {X} P xs i x h is px below k a lt e =
    let here = λ (f : get_or xs i a ≡ a).
    subst P (sym (get_or_from_slice_get xs i x a (slice_get_read xs (length xs) i x refl h is)) ∙ f) px in
    below_more (λ n. get_or xs n a ≡ a → P a) i (λ n l. below n a l) here k lt e

-- a list of some has a first one
pub first_of : {X : Type 0} (xs : List X) → 0 < length xs → (x : X) × Contains xs x
first_of [] some = absurd (omega (arith, some))
first_of (x ∷ xs) some = (x, (zero, omega arith, refl))

pub none_in_none : {X : Type 0} (x : X) → Contains [] x → ⊥
none_in_none x c = let inside = c.1 in omega arith

-- what holds of each of a list holds of each once one more of which it holds may have been put
-- behind
pub all_pushed : {X : Type 0} (P : X → Type 0) (before after : List X) (x : X) (b : Bool) → after ≡ (if b then before ++ x ∷ [] else before)
    → All P before → P x → All P after
all_pushed P before after x true e all one = subst (All P) (sym e) (All-push P before x all one)
all_pushed P before after x false e all one = subst (All P) (sym e) all
