-- The notes of a tree, lists of lists, and how many steps trees have.
use Rattle.std.proofs.Common.{◌≡◌, ◌<◌, ◌+◌, ◌++◌, inl, inr, ℕ, zero, suc, List, [], ◌∷◌, reverse, Contains, arith, ap, sym, refl, ◌∙◌, subst}
use Rattle.std.specs.List.{flat_map}
use Rattle.std.proofs.lemmas.Grind.{common_steps, flat_map-append}
use Rattle.std.proofs.lemmas.List.{reverse-append, append-nil}
use Rattle.std.proofs.lemmas.List.Elements.{Contains-append_left, Contains-append_right, Contains-append_cases}
use Rattle.notes.specs.Derivation.{Derivation, Derivations, derived, none_under, one_under, listed, derivations, under_of, steps_of, steps_under}
use Rattle.notes.specs.Valid.{IsValid, AreValid}
use Rattle.cert_extract.specs.Tree.{IsIn, IsUnder}

-- 1. The tree

pub in_itself : (top : Derivation) → IsIn top top
in_itself (derived step notes) = inl refl

one_of : (notes : Derivations) (next : Derivation) → Contains (listed notes) next → IsUnder notes next
one_of none_under next c = absurd (let inside = c.1 in omega (arith, inside))
one_of (one_under first notes) next (zero, inside, e) = inl (subst (IsIn first) e (in_itself first))
one_of (one_under first notes) next (suc k, inside, e) = inr (one_of notes next (k, omega (arith, inside), e))

mutual
  -- what is under a note of the tree is in the tree
  pub under_in : (top note next : Derivation) → IsIn top note → Contains (under_of note) next → IsIn top next
  under_in (derived step notes) note next (inl same) c = inr (one_of notes next (subst (λ (n : Derivation). Contains (under_of n) next) (sym same) c))
  under_in (derived step notes) note next (inr below) c = inr (under_any notes note next below c)

  under_any : (notes : Derivations) (note next : Derivation) → IsUnder notes note → Contains (under_of note) next → IsUnder notes next
  under_any none_under note next h c = absurd h
  under_any (one_under first notes) note next (inl h) c = inl (under_in first note next h c)
  under_any (one_under first notes) note next (inr h) c = inr (under_any notes note next h c)

mutual
  -- what is in a note of the tree is in the tree
  pub in_tree : (top note next : Derivation) → IsIn top note → IsIn note next → IsIn top next
  in_tree (derived step notes) note next (inl same) c = subst (λ (n : Derivation). IsIn n next) (sym same) c
  in_tree (derived step notes) note next (inr below) c = inr (in_any notes note next below c)

  in_any : (notes : Derivations) (note next : Derivation) → IsUnder notes note → IsIn note next → IsUnder notes next
  in_any none_under note next h c = absurd h
  in_any (one_under first notes) note next (inl h) c = inl (in_tree first note next h c)
  in_any (one_under first notes) note next (inr h) c = inr (in_any notes note next h c)

mutual
  -- a note of a valid tree is valid
  pub valid_in : (top note : Derivation) → IsIn top note → IsValid top → IsValid note
  valid_in (derived step notes) note (inl same) v = subst IsValid same v
  valid_in (derived step notes) note (inr below) v = valid_under notes note below v.0

  valid_under : (notes : Derivations) (note : Derivation) → IsUnder notes note → AreValid notes → IsValid note
  valid_under none_under note h v = absurd h
  valid_under (one_under first notes) note (inl h) v = valid_in first note h v.0
  valid_under (one_under first notes) note (inr h) v = valid_under notes note h v.1

pub valid_one : (notes : Derivations) (note : Derivation) → Contains (listed notes) note → AreValid notes → IsValid note
valid_one notes note c v = valid_under notes note (one_of notes note c) v

-- 2. Lists of lists

module _ {X Y : Type 0} (f : X → List Y) where
  pub from_flat : (xs : List X) (y : Y) → Contains (flat_map f xs) y → (x : X) × Contains xs x × Contains (f x) y
  from_flat [] y c = absurd (let inside = c.1 in omega (arith, inside))
  from_flat (x ∷ xs) y c = elim (Contains-append_cases (f x) (flat_map f xs) y c) [
    | inl here ↦ (x, (zero, omega arith, refl), here)
    | inr there ↦
        let more = from_flat xs y there in
        (more.0, (suc more.1.0, (let inside = more.1.1 in omega (arith, inside)), more.1.2), more.2)
  ]

  pub in_flat : (xs : List X) (x : X) (y : Y) → Contains xs x → Contains (f x) y → Contains (flat_map f xs) y
  in_flat [] x y c d = absurd (let inside = c.1 in omega (arith, inside))
  in_flat (first ∷ xs) x y (zero, inside, e) d = Contains-append_left (f first) (flat_map f xs) y (subst (λ (z : X). Contains (f z) y) (sym e) d)
  in_flat (first ∷ xs) x y (suc k, inside, e) d = Contains-append_right (f first) (flat_map f xs) y (in_flat xs x y (k, omega (arith, inside), e) d)

module _ {X : Type 0} where
  pub reverse-cons : (x : X) (xs : List X) → reverse (x ∷ xs) ≡ reverse xs ++ x ∷ []
  reverse-cons x xs = grind (arith, common_steps)

  pub in_reverse : (xs : List X) (x : X) → Contains xs x → Contains (reverse xs) x
  in_reverse [] x c = c
  in_reverse (first ∷ xs) x (zero, inside, e) =
      subst (λ (ys : List X). Contains ys x) (sym (reverse-cons first xs)) (Contains-append_right (reverse xs) (first ∷ []) x (zero, omega arith, e))
  in_reverse (first ∷ xs) x (suc k, inside, e) =
      subst (λ (ys : List X). Contains ys x) (sym (reverse-cons first xs))
      (Contains-append_left (reverse xs) (first ∷ []) x (in_reverse xs x (k, omega (arith, inside), e)))

  pub of_reverse : (xs : List X) (x : X) → Contains (reverse xs) x → Contains xs x
  of_reverse [] x c = c
  of_reverse (first ∷ xs) x c =
      elim (Contains-append_cases (reverse xs) (first ∷ []) x (subst (λ (ys : List X). Contains ys x) (reverse-cons first xs) c)) [
        | inl there ↦ let more = of_reverse xs x there in (suc more.0, (let inside = more.1 in omega (arith, inside)), more.2)
        | inr (zero, inside, e) ↦ (zero, omega arith, e)
        | inr (suc k, inside, e) ↦ absurd (omega (arith, inside))
      ]

-- the lists of a reversed list, each reversed
pub flat-reverse : {X Y : Type 0} (f : X → List Y) (xs : List X) → flat_map (λ x. reverse (f x)) (reverse xs) ≡ reverse (flat_map f xs)
flat-reverse f [] = refl
flat-reverse {X} {Y} f (x ∷ xs) =
    ap (flat_map (λ (z : X). reverse (f z))) (reverse-cons x xs)
    ∙ (flat_map-append (λ (z : X). reverse (f z)) (reverse xs) (x ∷ [])
    ∙ (ap (λ (ys : List Y). ys ++ (reverse (f x) ++ [])) (flat-reverse f xs)
    ∙ (ap (λ (ys : List Y). reverse (flat_map f xs) ++ ys) (append-nil (reverse (f x))) ∙ sym (reverse-append (f x) (flat_map f xs)))))

-- what is gathered of one more
pub flat-push : {X Y : Type 0} (f : X → List Y) (xs : List X) (x : X) → flat_map f (xs ++ x ∷ []) ≡ flat_map f xs ++ f x
flat-push {X} {Y} f xs x = flat_map-append f xs (x ∷ []) ∙ ap (λ (ys : List Y). flat_map f xs ++ ys) (append-nil (f x))

-- 3. How many steps some trees have

abbrev pub weight : List Derivation → ℕ
weight notes = steps_under (derivations notes)

pub weight-append : (xs ys : List Derivation) → weight (xs ++ ys) ≡ weight xs + weight ys
weight-append [] ys = omega arith
weight-append (x ∷ xs) ys = omega (arith, weight-append xs ys)

pub weight-reverse : (xs : List Derivation) → weight (reverse xs) ≡ weight xs
weight-reverse [] = refl
weight-reverse (x ∷ xs) =
    let e = ap weight (reverse-cons x xs) in
    omega (arith, e, weight-append (reverse xs) (x ∷ []), weight-reverse xs)

pub weight-under : (note : Derivation) → weight (under_of note) + 1 ≡ steps_of note
weight-under (derived step notes) = omega (arith, weight-listed notes)
  where
    weight-listed : (notes : Derivations) → weight (listed notes) ≡ steps_under notes
    weight-listed none_under = refl
    weight-listed (one_under first notes) = omega (arith, weight-listed notes)

pub some_steps : (note : Derivation) → 0 < steps_of note
some_steps (derived step notes) = omega arith
