-- The lines of a library's text: what they determine, and how a certificate's text begins.
use Rattle.std.proofs.Common.{inl, inr, ◌≡◌, ◌≤◌, ℕ, List, [], ◌∷◌, ◌++◌, get_or, length, refl, sym, ap, ◌∙◌, arith}
use Rattle.std.specs.Prelude.{codes}
use Rattle.std.specs.Fmt.{decimal}
use Rattle.std.proofs.lemmas.Fmt.{decimal_digit, decimal_injective}
use Rattle.std.proofs.lemmas.List.{append_cancel_left}
use Rattle.hand_dominance.specs.declared.version.Version.{Version}
use Rattle.hand_dominance.specs.declared.version.Version.TheVariants.{One, Two}
use Rattle.cert_text.specs.Entries.{line, problem_line}
use Rattle.cert_text.specs.Certificate.{mate_form, escape_form}
use Rattle.cert_text.specs.Text.{version_front, claim_text, entries_text, end_line, certificate_text}
use Rattle.cert_text.specs.declared.certificate.Certificate.{Certificate}
use Rattle.cert_text.specs.declared.certificate.Certificate.TheVariants as certificates
use Rattle.cert_text.specs.declared.head.Claim.{Claim}
use Rattle.cert_text.specs.declared.head.Claim.TheVariants.{Mate, Escape}
use Rattle.cert_text.specs.Reading.{Lacks, IsFrontLine, IsTextOf}
use Rattle.cert_text.proofs.Offered.{lacks_both, lacks_by, decimal_lacks, line_cut}
use Rattle.library_text.specs.declared.limits.TheConstants.{MOST_CERTIFICATES}
use Rattle.library_text.specs.Reading.{BeginsWith, IsBare}

-- 1. THE FIRST LINE.

pub first_lacks : (count : ℕ) → count ≤ MOST_CERTIFICATES → Lacks 10 (codes "library 1 " ++ decimal count)
first_lacks count few =
    lacks_both 10 (codes "library 1 ") (decimal count) (lacks_by 10 (codes "library 1 ") refl) (decimal_lacks 10 count (omega arith) (omega (arith, few)))

pub zero_is : decimal 0 ≡ codes "0"
zero_is = decimal_digit 0 (omega arith)

-- a text begins with one first line
pub one_beginning : (m n : ℕ) (s r bytes : List ℕ) → BeginsWith m s bytes → BeginsWith n r bytes → (m ≡ n) × (s ≡ r)
one_beginning m n s r bytes h k =
    let parts = line_cut (codes "library 1 " ++ decimal m) (codes "library 1 " ++ decimal n) s r (first_lacks m h.few) (first_lacks n k.few) (sym h.text ∙ k.text) in
    let few = h.few in
    let also = k.few in
    (decimal_injective m n (omega (arith, few)) (omega (arith, also)) (append_cancel_left (codes "library 1 ") (decimal m) (decimal n) parts.0), parts.1)

-- 2. HOW A CERTIFICATE'S TEXT BEGINS.

bare_front : (version : Version) (x y t e : List ℕ) → IsBare (((((version_front version ++ x) ++ 10 ∷ []) ++ y) ++ t) ++ e)
bare_front One x y t e = ((((((49 ∷ 32 ∷ x) ++ 10 ∷ []) ++ y) ++ t) ++ e), refl)
bare_front Two x y t e = ((((((50 ∷ 32 ∷ x) ++ 10 ∷ []) ++ y) ++ t) ++ e), refl)

pub bare_text : (c : Certificate) → IsBare (certificate_text c)
bare_text (certificates.Mate c) = bare_front c.version (claim_text Mate (length c.entries)) (problem_line c.problem) (entries_text (mate_form c.problem) c.entries) end_line
bare_text (certificates.Escape c) = bare_front c.version (claim_text Escape (length c.entries)) (problem_line c.problem) (entries_text (escape_form c.problem) c.entries) end_line

-- the second letter of a front line isn't that of a certificate's first line
second_of_front : (claim : Claim) (front more : List ℕ) → IsFrontLine claim front → get_or (line front ++ more) 1 0 ≡ 104
second_of_front Mate front more is = ap (λ (t : List ℕ). get_or (line t ++ more) 1 0) is.3
second_of_front Escape front more is = ap (λ (t : List ℕ). get_or (line t ++ more) 1 0) is

front_not_bare : (claim : Claim) (front more text : List ℕ) → IsFrontLine claim front → text ≡ line front ++ more → IsBare text → ⊥
front_not_bare claim front more text is e bare =
    let one : 104 ≡ get_or text 1 0 = sym (ap (λ (t : List ℕ). get_or t 1 0) e ∙ second_of_front claim front more is) in
    let other : get_or text 1 0 ≡ 101 = ap (λ (t : List ℕ). get_or t 1 0) bare.1 in
    let same = one ∙ other in omega (arith, same)

-- so the text of a certificate that begins so has no front line
pub bare_is : (text : List ℕ) (c : Certificate) → IsBare text → IsTextOf c text → text ≡ certificate_text c
bare_is text (certificates.Mate c) bare at = elim at.1 [
  | inl none ↦ at.2 ∙ ap (λ (front : List ℕ). front ++ certificate_text (certificates.Mate c)) none
  | inr front ↦
      absurd (front_not_bare Mate front.0 (certificate_text (certificates.Mate c)) text front.1
      (at.2 ∙ ap (λ (t : List ℕ). t ++ certificate_text (certificates.Mate c)) front.2) bare)
]
bare_is text (certificates.Escape c) bare at = elim at.1 [
  | inl none ↦ at.2 ∙ ap (λ (front : List ℕ). front ++ certificate_text (certificates.Escape c)) none
  | inr front ↦
      absurd (front_not_bare Escape front.0 (certificate_text (certificates.Escape c)) text front.1
      (at.2 ∙ ap (λ (t : List ℕ). t ++ certificate_text (certificates.Escape c)) front.2) bare)
]
