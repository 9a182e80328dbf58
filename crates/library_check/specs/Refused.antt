-- Which certificate of a library is refused.
use Rattle.std.specs.Prelude.{◌≡◌, ◌<◌, ◌+◌, ℕ, List, Some, Contains, slice_get}
use Rattle.cert_text.specs.declared.certificate.Certificate.{Certificate}
use Rattle.cert_text.specs.Kinds.{problem_of}
use Rattle.cert_check.specs.Valid.{IsValid}
use Rattle.cert_check.specs.Reasons.{IsFirstAgainst}
use Rattle.library_check.specs.declared.refused.Refused.{Refused}

-- Each of the certificates is valid for its own problem.
abbrev pub AreValid : List Certificate → Type 0
AreValid certificates = (c : Certificate) → Contains certificates c → IsValid c (problem_of c)

-- The certificate of this number, from 1, is refused for its own problem: this is the first reason
-- against it. Each before it is valid for its own.
pub record IsFirstRefused (certificates : List Certificate) (refused : Refused) : Type 0 where
  pub place : ℕ
  pub number : refused.number ≡ place + 1
  pub certificate : Certificate
  pub stands : slice_get certificates place ≡ Some certificate
  pub reason : IsFirstAgainst certificate (problem_of certificate) refused.entry refused.why
  pub sooner : (k : ℕ) (c : Certificate) → k < place → slice_get certificates k ≡ Some c → IsValid c (problem_of c)
