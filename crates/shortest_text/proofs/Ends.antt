-- A certificate's text tells its version.
use Rattle.std.proofs.Common.{◌≡◌, ℕ, List, [], ◌∷◌, ◌++◌, length, get_or, refl, sym, ap, ◌∙◌, arith}
use Rattle.hand_dominance.specs.declared.version.Version.{Version}
use Rattle.hand_dominance.specs.declared.version.Version.TheVariants.{One, Two}
use Rattle.cert_text.specs.Entries.{problem_line}
use Rattle.cert_text.specs.Certificate.{Mating, mate_form, escape_form}
use Rattle.cert_text.specs.Text.{version_front, claim_text, entries_text, end_line, certificate_text}
use Rattle.cert_text.specs.declared.certificate.Certificate.{Certificate}
use Rattle.cert_text.specs.declared.certificate.Certificate.TheVariants as certificates
use Rattle.cert_text.specs.declared.head.Claim.TheVariants.{Mate, Escape}
use Rattle.shortest_text.specs.Reading.{IsOfOne}

abbrev digit : Version → ℕ
digit One = 49
digit Two = 50

digit_front : (version : Version) (x y t e : List ℕ) → get_or (((((version_front version ++ x) ++ 10 ∷ []) ++ y) ++ t) ++ e) 12 0 ≡ digit version
digit_front One x y t e = refl
digit_front Two x y t e = refl

one_digit : (version : Version) → digit version ≡ 49 → version ≡ One
one_digit One h = refl
one_digit Two h = absurd (omega (arith, h))

one_front : (version : Version) (x y t e : List ℕ) → version ≡ One
    → ((((version_front version ++ x) ++ 10 ∷ []) ++ y) ++ t) ++ e ≡ version_front One ++ ((((x ++ 10 ∷ []) ++ y) ++ t) ++ e)
one_front One x y t e h = refl
one_front Two x y t e h = let bad = ap digit h in absurd (omega (arith, bad))

-- A certificate whose text begins as one of version 1 is of version 1.
pub version_one : (c : Mating) (text : List ℕ) → text ≡ certificate_text (certificates.Mate c) → IsOfOne text → c.version ≡ One
version_one c text is of =
    one_digit c.version
    (sym (digit_front c.version (claim_text Mate (length c.entries)) (problem_line c.problem) (entries_text (mate_form c.problem) c.entries) end_line)
    ∙ ap (λ (t : List ℕ). get_or t 12 0) (sym is ∙ of.1))

-- And the text of one that is begins so.
pub one_version : (c : Mating) → c.version ≡ One → IsOfOne (certificate_text (certificates.Mate c))
one_version c is = (
  (((claim_text Mate (length c.entries) ++ 10 ∷ []) ++ problem_line c.problem) ++ entries_text (mate_form c.problem) c.entries) ++ end_line,
  one_front c.version (claim_text Mate (length c.entries)) (problem_line c.problem) (entries_text (mate_form c.problem) c.entries) end_line is,
)

second_front : (version : Version) (x y t e : List ℕ) → get_or (((((version_front version ++ x) ++ 10 ∷ []) ++ y) ++ t) ++ e) 1 0 ≡ 101
second_front One x y t e = refl
second_front Two x y t e = refl

-- The second letter of a certificate's text, and of a head.
pub certificate_second : (c : Certificate) → get_or (certificate_text c) 1 0 ≡ 101
certificate_second (certificates.Mate c) = second_front c.version (claim_text Mate (length c.entries)) (problem_line c.problem) (entries_text (mate_form c.problem) c.entries) end_line
certificate_second (certificates.Escape c) = second_front c.version (claim_text Escape (length c.entries)) (problem_line c.problem) (entries_text (escape_form c.problem) c.entries) end_line

pub version_second : (version : Version) (x y : List ℕ) → get_or ((version_front version ++ x) ++ y) 1 0 ≡ 101
version_second One x y = refl
version_second Two x y = refl
