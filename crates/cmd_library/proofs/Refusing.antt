-- A library has one certificate that is refused first, and none where all are valid.
use Rattle.std.proofs.Common.{◌≡◌, ◌∙◌, ◌<◌, ◌+◌, inl, inr, ℕ, List, Some, ap, subst, sym}
use Rattle.std.specs.Prelude.{slice_get}
use Rattle.std.proofs.lemmas.Bool.{cases_order}
use Rattle.std.proofs.lemmas.Option.{same_Some}
use Rattle.list_laws.proofs.Standing.{contained}
use Rattle.board_core.specs.Board.{Board}
use Rattle.cert_text.specs.declared.certificate.Certificate.{Certificate}
use Rattle.cert_text.specs.Kinds.{problem_of}
use Rattle.cert_check.specs.Reasons.{IsFirstAgainst, IsVerdict}
use Rattle.cert_check.specs.Valid.{IsValid}
use Rattle.cert_check.specs.declared.verdict.Verdict.{Verdict}
use Rattle.cert_check.specs.declared.verdict.Verdict.TheVariants as verdicts
use Rattle.cert_check.specs.declared.verdict.Why.{Why}
use Rattle.library_check.specs.Refused.{AreValid, IsFirstRefused}
use Rattle.library_check.specs.declared.refused.Refused.{Refused}

-- no certificate has two verdicts
abbrev pub OneVerdict : Type 0
OneVerdict = (c : Certificate) (p : Board) (one other : Verdict) → IsVerdict c p one → IsVerdict c p other → one ≡ other

refused_is_bad : OneVerdict → (c : Certificate) (p : Board) (entry : ℕ) (why : Why) → IsFirstAgainst c p entry why → IsValid c p → ⊥
refused_is_bad one c p entry why bad good = let same = one c p verdicts.Accepted (verdicts.Refused entry why) good bad in absurd (cc)

-- where all are valid, none is refused
pub none_refused : OneVerdict → (certificates : List Certificate) (refused : Refused) → AreValid certificates → IsFirstRefused certificates refused → ⊥
none_refused one certificates refused valid first =
    refused_is_bad one first.certificate (problem_of first.certificate) refused.entry refused.why first.reason
    (valid first.certificate (contained certificates first.place first.certificate first.stands))

-- none is refused first that stands before the one that is
not_sooner : OneVerdict → (certificates : List Certificate) (one other : Refused) (a : IsFirstRefused certificates one) (b : IsFirstRefused certificates other)
    → a.place < b.place → ⊥
not_sooner verdict certificates one other a b before =
    refused_is_bad verdict a.certificate (problem_of a.certificate) one.entry one.why a.reason (b.sooner a.place a.certificate before a.stands)

same_parts : (one other : Refused) → one.number ≡ other.number → one.entry ≡ other.entry → one.why ≡ other.why → one ≡ other
same_parts one other numbers entries whys = λ i. record { number = numbers i; entry = entries i; why = whys i }

at_one_place : OneVerdict → (certificates : List Certificate) (one other : Refused) (a : IsFirstRefused certificates one) (b : IsFirstRefused certificates other)
    → a.place ≡ b.place → one ≡ other
at_one_place verdict certificates one other a b place =
    let stands : slice_get certificates b.place ≡ Some a.certificate = subst (λ (k : ℕ). slice_get certificates k ≡ Some a.certificate) place a.stands in
    let same : a.certificate ≡ b.certificate = same_Some a.certificate b.certificate (sym stands ∙ b.stands) in
    let reason = subst (λ (c : Certificate). IsFirstAgainst c (problem_of c) one.entry one.why) same a.reason in
    let told = verdict b.certificate (problem_of b.certificate) (verdicts.Refused one.entry one.why) (verdicts.Refused other.entry other.why) reason b.reason in
    same_parts one other (a.number ∙ (ap (λ (k : ℕ). k + 1) place ∙ sym b.number)) (cc) (cc)

-- no two certificates are refused first
pub one_refused : OneVerdict → (certificates : List Certificate) (one other : Refused) → IsFirstRefused certificates one → IsFirstRefused certificates other → one ≡ other
one_refused verdict certificates one other a b = elim (cases_order a.place b.place) as (λ _. one ≡ other) [
  | inl same ↦ at_one_place verdict certificates one other a b same
  | inr apart ↦ elim apart as (λ _. one ≡ other) [
    | inl before ↦ absurd (not_sooner verdict certificates one other a b before)
    | inr after ↦ absurd (not_sooner verdict certificates other one b a after)
  ]
]
