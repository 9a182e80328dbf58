-- The lines that tell a verdict, each with the certificate behind it.
use Rattle.std.specs.Prelude.{ℕ, List, [], ◌∷◌, Option, Some, None}
use Rattle.std.specs.List.{concat}
use Rattle.cert_text.specs.declared.head.Claim.{Claim}
use Rattle.collection_text.specs.declared.told.ToldLine.{ToldLine}
use Rattle.collection_text.specs.Lines.{certificate_lines, whole_lines}
use Rattle.collection_text.specs.Words.{claim_told, word}

-- A line that tells a verdict: the number of the problem's line, as it is written; what a
-- certificate of the verdict claims; and the text of the certificate behind the line.
pub record ToldView : Type 0 where
  pub number : List ℕ
  pub claim : Claim
  pub certificate : List ℕ

-- What a line tells by which verdict, where it tells one, with the certificate in the lines behind
-- it; and what these others tell.
abbrev pub told_by : Option Claim → List ℕ → List (List ℕ) → List ToldView → List ToldView
told_by None line behind others = others
told_by (Some claim) line behind others = record { number = word line; claim = claim; certificate = concat (certificate_lines behind) } ∷ others

-- Those of some lines that tell a verdict. No line of a certificate does.
unfoldable pub told_among : List (List ℕ) → List ToldView
told_among [] = []
told_among (line ∷ behind) = told_by (claim_told line) line behind (told_among behind)

-- The lines of a text that tell a verdict.
abbrev pub told_lines : List ℕ → List ToldView
told_lines text = told_among (whole_lines text)

-- A line as it is given to the caller.
abbrev pub seen : ToldLine → ToldView
seen line = record { number = line.number.now; claim = line.claim; certificate = line.certificate.now }
