-- What a list of keys holds.
use Rattle.std.proofs.Common.{◌≡◌, List, [], ◌∷◌, ◌⊎◌, inl, inr, Contains, arith, refl}
use Rattle.std.specs.List.{AllByRecursion}
use Rattle.std.proofs.lemmas.List.Elements.{Contains-append_right, Contains-append_cases, All-contains, All-from_recursion, Contains-push_cases}
use Rattle.board_core.specs.declared.keys.Key.{Key}

pub contains_head : (k : Key) (ks : List Key) → Contains (k ∷ ks) k
contains_head k ks = (0, omega arith, refl)

pub contains_tail : (k : Key) (ks : List Key) (q : Key) → Contains ks q → Contains (k ∷ ks) q
contains_tail k ks q c = Contains-append_right (k ∷ []) ks q c

pub contains_none : (q : Key) → Contains [] q → ⊥
contains_none q c = let w = c.1 in absurd (omega arith)

pub contains_cases : (k : Key) (ks : List Key) (q : Key) → Contains (k ∷ ks) q → (k ≡ q) ⊎ Contains ks q
contains_cases k ks q c = elim (Contains-append_cases (k ∷ []) ks q c) [
  | inl one ↦ elim (Contains-push_cases [] k q one) [
    | inl none ↦ absurd (contains_none q none)
    | inr same ↦ inl same
  ]
  | inr rest ↦ inr rest
]

pub all_contained : (P : Key → Type 0) (ks : List Key) (q : Key) → AllByRecursion P ks → Contains ks q → P q
all_contained P ks q all c = All-contains P ks q (All-from_recursion P ks all) c
