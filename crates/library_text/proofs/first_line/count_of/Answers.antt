use Rattle.std.proofs.Common.{◌≡◌, ◌≤◌, ℕ, zero, suc, arith, sym, ◌∙◌}
use Rattle.std.specs.Fmt.{decimal}
use Rattle.std.proofs.lemmas.Bool.{false≢true}
use Rattle.library_text.specs.declared.limits.TheConstants.{MOST_CERTIFICATES}
use Rattle.library_text.proofs.Lines.{zero_is}
use Rattle.library_text.proofs.Reading.{none_from}
use Rattle.library_text.proofs.first_line.count_of.Goals as goal

pub returns-then-is_zero-clause-text : goal.returns-then-is_zero-clause-text
returns-then-is_zero-clause-text c = c.is_zero.ensures.0 c.if-is_zero.true ∙ sym zero_is

pub returns-clause-none : goal.returns-clause-none
returns-clause-none c =
    none_from c.number_of_text.result ((n : ℕ) → 1 ≤ n → n ≤ MOST_CERTIFICATES → c.args.text.now ≡ decimal n → ⊥)
    ((n : ℕ) → n ≤ MOST_CERTIFICATES → c.args.text.now ≡ decimal n → ⊥)
    (λ none n few e. by_zero (λ m. m ≤ MOST_CERTIFICATES → c.args.text.now ≡ decimal m → ⊥)
    (λ _ is. false≢true (sym c.if-is_zero.false ∙ c.is_zero.ensures.1 (is ∙ zero_is)))
    (λ m low is. none (suc m) (omega arith) low is) n few e)
    c.number_of_text.ensures.none
  where
    by_zero : (P : ℕ → Type 0) → P 0 → ((m : ℕ) → P (suc m)) → (n : ℕ) → P n
    by_zero P none more zero = none
    by_zero P none more (suc n) = more n
