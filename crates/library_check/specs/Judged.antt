-- What is found of certificates one after the other: it serves private functions alone.
use Rattle.std.specs.Prelude.{◌≡◌, ℕ, List, Option, Some, None, Contains}
use Rattle.cert_text.specs.declared.certificate.Certificate.{Certificate}
use Rattle.cert_text.specs.Kinds.{problem_of}
use Rattle.cert_check.specs.Valid.{IsValid, Shows}
use Rattle.cert_check.specs.Reasons.{IsFirstAgainst}
use Rattle.library_check.specs.declared.refused.Refused.{Refused}
use Rattle.library_check.specs.Refused.{IsFirstRefused}

-- What is said against the certificate of this number: nothing where it is valid for its own
-- problem, and then it shows what it says; else the first reason.
abbrev pub IsJudged : ℕ → Certificate → Option Refused → Type 0
IsJudged number c None = IsValid c (problem_of c) × Shows c (problem_of c)
IsJudged number c (Some refused) = (refused.number ≡ number) × IsFirstAgainst c (problem_of c) refused.entry refused.why

-- What is found among certificates.
abbrev pub IsFound : List Certificate → Option Refused → Type 0
IsFound certificates None = (c : Certificate) → Contains certificates c → IsJudged 0 c None
IsFound certificates (Some refused) = IsFirstRefused certificates refused
