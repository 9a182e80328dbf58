-- What lines tell, one at a time.
use Rattle.std.proofs.Common.{◌≡◌, ℕ, List, [], ◌∷◌, Option, Some, None, refl, ap}
use Rattle.std.specs.List.{concat}
use Rattle.cert_text.specs.declared.head.Claim.{Claim}
use Rattle.collection_text.specs.Lines.{certificate_lines}
use Rattle.collection_text.specs.Told.{told_among, told_by}
use Rattle.collection_text.specs.Words.{claim_told, word}

-- No lines tell nothing.
pub told_among-none : told_among [] ≡ []
unfolding told_among
told_among-none = refl

-- A line that tells no verdict is passed by.
pub told_among-passed : (line : List ℕ) (behind : List (List ℕ)) → claim_told line ≡ None → told_among (line ∷ behind) ≡ told_among behind
unfolding told_among
told_among-passed line behind none = ap (λ (claim : Option Claim). told_by claim line behind (told_among behind)) none

-- Any other is the first that is told.
pub told_among-told : (line : List ℕ) (behind : List (List ℕ)) (claim : Claim) → claim_told line ≡ Some claim
    → told_among (line ∷ behind) ≡ record { number = word line; claim = claim; certificate = concat (certificate_lines behind) } ∷ told_among behind
unfolding told_among
told_among-told line behind claim is = ap (λ (told : Option Claim). told_by told line behind (told_among behind)) is
