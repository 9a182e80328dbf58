-- What stands behind the line of a fault.
use Rattle.std.proofs.Common.{◌≡◌, ◌⊎◌, ◌∙◌, ◌++◌, inl, inr, ℕ, List, [], Option, Some, MatchOption, ap, subst, sym}
use Rattle.explanations.specs.declared.trouble.Trouble.{Trouble}
use Rattle.explanations.specs.Shown.{IsHarmless}
use Rattle.run_telling.specs.Telling.{BeginsAsTold, IsToldLine, told_text}

-- a line in the words of a fault, with what explains it, is what is told of the fault
pub told_so : {F : Type 0} (text_of : F → List ℕ) (MayFollow : F → List ℕ → Type 0) (fault : F) (words : List ℕ) (trouble : Option Trouble) (text : List ℕ)
    → words ≡ text_of fault → MayFollow fault []
    → MatchOption trouble (MayFollow fault []) (λ t. (explanation : List ℕ) → IsHarmless t explanation → MayFollow fault explanation)
    → IsToldLine words trouble text → BeginsAsTold (record { line = Some (text_of fault); MayFollow = MayFollow fault }) text
told_so text_of MayFollow fault words trouble text same nothing explained told = record {
  more = told.more;
  begins = told.begins ∙ ap (λ (w : List ℕ). told_text (Some w) ++ told.more) same;
  follows = go told.explains;
}
  where
    go : (told.more ≡ []) ⊎ ((t : Trouble) × (trouble ≡ Some t) × IsHarmless t told.more) → MayFollow fault told.more
    go (inl none) = subst (MayFollow fault) (sym none) nothing
    go (inr h) =
        (subst (λ (o : Option Trouble). MatchOption o (MayFollow fault []) (λ t. (explanation : List ℕ) → IsHarmless t explanation → MayFollow fault explanation)) h.1 explained) told.more h.2
