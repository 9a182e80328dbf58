-- Truth values.
use Rattle.std.proofs.Common.{◌≡◌, ◌≢◌, ◌&&◌, ◌||◌, ◌==◌, ℕ, Bool, true, false, not, refl, sym, ap, ◌∙◌, inl, inr, eq-eqb, ne_eqb}
use Rattle.std.proofs.lemmas.Bool.{cases_eq, true≢false, and_parts, not_from_true, both_ways}

-- tests that pass for each other are one
pub same_truth : (a b : Bool) → (a ≡ true → b ≡ true) → (b ≡ true → a ≡ true) → a ≡ b
same_truth true b h k = sym (h refl)
same_truth false true h k = k refl
same_truth false false h k = refl

-- what is left once one number was taken out: another one that was there before
pub others_left : (left rest : Bool) (t s : ℕ) → rest ≡ (left && not (t == s)) → rest ≡ true → (left ≡ true) × (t ≢ s)
others_left left rest t s e is =
    let parts = and_parts left (not (t == s)) (sym e ∙ is) in
    elim (cases_eq t s) [
      | inl same ↦ absurd (both_ways _ (not_from_true _ (eq-eqb t s same)) parts.1)
      | inr other ↦ (parts.0, other)
    ]

-- another number that isn't left was gone before
pub gone_before : (left rest : Bool) (t s : ℕ) → rest ≡ (left && not (t == s)) → rest ≡ false → t ≢ s → left ≡ false
gone_before true rest t s e is other = absurd (true≢false (sym (e ∙ ap not (ne_eqb t s other)) ∙ is))
gone_before false rest t s e is other = refl

pub or_false : (p : Bool) → (p || false) ≡ p
or_false true = refl
or_false false = refl
