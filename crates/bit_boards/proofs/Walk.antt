-- The squares of a set, in order: the first, and what is left.
use Rattle.std.proofs.Common.{◌≡◌, ◌<◌, ◌≤◌, ◌+◌, ◌==◌, ◌&&◌, ℕ, zero, suc, List, [], ◌∷◌, Bool, true, false, not, arith, refl, sym, ap, ◌∙◌, inl, inr, eq-eqb, ne_eqb, cond}
use Rattle.std.specs.List.{filter, range_with_len}
use Rattle.std.proofs.lemmas.Bool.{cases_eq, and_right}

-- a test that nothing passes leaves nothing
pub none_left : (p : ℕ → Bool) (a n : ℕ) → ((s : ℕ) → p s ≡ false) → filter p (range_with_len a n) ≡ []
none_left p a zero none = refl
none_left p a (suc n) none = rw (none a) (none_left p (a + 1) n none)

-- two tests that agree from a number on leave the same of the numbers from there on
same_left : (p q : ℕ → Bool) (a n : ℕ) → ((s : ℕ) → a ≤ s → p s ≡ q s) → filter p (range_with_len a n) ≡ filter q (range_with_len a n)
same_left p q a zero same = refl
same_left p q a (suc n) same =
    ap (λ b. cond b (a ∷ filter p (range_with_len (a + 1) n)) (filter p (range_with_len (a + 1) n))) (same a (omega arith))
    ∙ ap (λ rest. cond (q a) (a ∷ rest) rest) (same_left p q (a + 1) n (λ s h. same s (omega arith)))

and_true : (b : Bool) → (b && true) ≡ b
and_true true = refl
and_true false = refl

-- the least number that passes comes first, and the others are those that pass without it
pub first_left : (p q : ℕ → Bool) (k a n : ℕ) → a ≤ k → k < a + n → p k ≡ true → ((s : ℕ) → s < k → p s ≡ false)
    → ((s : ℕ) → q s ≡ (p s && not (s == k))) → filter p (range_with_len a n) ≡ k ∷ filter q (range_with_len a n)
first_left p q k a zero low high has least rest = absurd (omega arith)
first_left p q k a (suc n) low high has least rest = elim (cases_eq a k) [
  | inl e ↦
      let here : p a ≡ true = ap p e ∙ has in
      let gone : q a ≡ false = rest a ∙ (ap (λ b. p a && not b) (eq-eqb a k e) ∙ (and_right (p a) false refl)) in
      let others = same_left p q (a + 1) n (λ s h. sym (rest s ∙ (ap (λ b. p s && not b) (ne_eqb s k (λ x. omega (arith, x, e, h))) ∙ and_true (p s)))) in
      rw (here, gone) (ap (λ (x : ℕ). x ∷ filter p (range_with_len (a + 1) n)) e ∙ ap (λ (xs : List ℕ). k ∷ xs) others)
  | inr apart ↦
      let below : a < k = omega (arith, low, apart) in
      let here : p a ≡ false = least a below in
      let gone : q a ≡ false = rest a ∙ ap (λ b. b && not (a == k)) here in
      rw (here, gone) (first_left p q k (a + 1) n (omega arith) (omega arith) has least rest)
]
