-- What is true of judged lines.
use Rattle.std.proofs.Common.{◌≡◌, ◌∷◌, ◌∙◌, ℕ, zero, suc, List, [], Some, None, inl, inr, ap, ap₂, refl, subst, sym}
use Rattle.std.specs.Prelude.{slice_get}
use Rattle.board_core.specs.Board.{Board}
use Rattle.cert_text.specs.declared.certificate.Certificate.{Certificate}
use Rattle.cert_text.specs.declared.head.Claim.{Claim}
use Rattle.cert_text.specs.Kinds.{claim_of, problem_of}
use Rattle.cert_check.specs.Reasons.{IsVerdict}
use Rattle.cert_check.specs.Valid.{IsValid}
use Rattle.cert_check.specs.declared.verdict.Verdict.{Verdict}
use Rattle.cert_check.specs.declared.verdict.Verdict.TheVariants as verdict
use Rattle.collection_text.specs.Told.{ToldView}
use Rattle.library_text.specs.Reading.{IsBare}
use Rattle.cmd_check.specs.Answer.{IsAcceptance, IsRefusal, IsTextOfOne}
use Rattle.cmd_check.specs.Headline.{IsValidText}
use Rattle.cmd_certificates.specs.declared.judged.LineJudgement.{LineJudgement}
use Rattle.cmd_certificates.specs.declared.judged.LineJudgement.TheVariants.{Accepted, Refused, Fault}
use Rattle.cmd_certificates.specs.Answer.{AreJudged, HasCertificate, IsLineAccepted, IsLineJudged, IsTold}
use Rattle.cmd_certificates.specs.Inside.{IsOwnJudgement}
use Rattle.cmd_certificates.specs.Judged.{JudgedView}

-- a certificate has one verdict for a problem
abbrev pub VerdictOnce : Type 0
VerdictOnce = (c : Certificate) (p : Board) (one other : Verdict) → IsVerdict c p one → IsVerdict c p other → one ≡ other

-- a text is that of one certificate
one_of : (input : List ℕ) (c d : Certificate) → IsTextOfOne input c → IsTextOfOne input d → d ≡ c
one_of input c d is also = is.only d also.read.0 also.read.1

-- one judgement is true of the certificate behind a line
one_told : VerdictOnce → (line : ToldView) (one other : LineJudgement) → IsTold line one → IsTold line other → one ≡ other
one_told once line (Accepted claim entries) (Accepted claimed counted) s t =
    let same = one_of line.certificate s.certificate t.certificate s.has.text t.has.text in
    let also = subst (λ (c : Certificate). IsAcceptance (problem_of c) c claimed counted) same t.accepted in
    let one_claim : claim ≡ claimed = s.accepted.is_claim ∙ sym also.is_claim in
    let one_count : entries ≡ counted = s.accepted.count ∙ sym also.count in
    cc
one_told once line (Accepted claim entries) (Refused entry why) s t =
    let same = one_of line.certificate s.certificate t.certificate s.has.text t.has.text in
    let also = subst (λ (c : Certificate). IsRefusal (problem_of c) c entry why) same t.refused in
    absurd (also.invalid s.accepted.valid)
one_told once line (Refused entry why) (Accepted claim entries) s t =
    let same = one_of line.certificate s.certificate t.certificate s.has.text t.has.text in
    let also = subst (λ (c : Certificate). IsAcceptance (problem_of c) c claim entries) same t.accepted in
    absurd (s.refused.invalid also.valid)
one_told once line (Refused entry why) (Refused number reason) s t =
    let same = one_of line.certificate s.certificate t.certificate s.has.text t.has.text in
    let also = subst (λ (c : Certificate). IsRefusal (problem_of c) c number reason) same t.refused in
    let is = once s.certificate (problem_of s.certificate) (verdict.Refused entry why) (verdict.Refused number reason) s.refused.first also.first in
    cc
one_told once line (Accepted claim entries) (Fault fault) s (inl (inl none)) = absurd (none.1.none s.certificate s.has.text.read.0 s.has.text.read.1)
one_told once line (Accepted claim entries) (Fault fault) s (inl (inr front)) = absurd (front.0 s.has.bare)
one_told once line (Accepted claim entries) (Fault fault) s (inr other) =
    absurd (other.another (ap claim_of (one_of line.certificate s.certificate other.certificate s.has.text other.text) ∙ s.has.told))
one_told once line (Refused entry why) (Fault fault) s (inl (inl none)) = absurd (none.1.none s.certificate s.has.text.read.0 s.has.text.read.1)
one_told once line (Refused entry why) (Fault fault) s (inl (inr front)) = absurd (front.0 s.has.bare)
one_told once line (Refused entry why) (Fault fault) s (inr other) =
    absurd (other.another (ap claim_of (one_of line.certificate s.certificate other.certificate s.has.text other.text) ∙ s.has.told))
one_told once line (Fault fault) (Accepted claim entries) (inl (inl none)) t = absurd (none.1.none t.certificate t.has.text.read.0 t.has.text.read.1)
one_told once line (Fault fault) (Accepted claim entries) (inl (inr front)) t = absurd (front.0 t.has.bare)
one_told once line (Fault fault) (Accepted claim entries) (inr other) t =
    absurd (other.another (ap claim_of (one_of line.certificate t.certificate other.certificate t.has.text other.text) ∙ t.has.told))
one_told once line (Fault fault) (Refused entry why) (inl (inl none)) t = absurd (none.1.none t.certificate t.has.text.read.0 t.has.text.read.1)
one_told once line (Fault fault) (Refused entry why) (inl (inr front)) t = absurd (front.0 t.has.bare)
one_told once line (Fault fault) (Refused entry why) (inr other) t =
    absurd (other.another (ap claim_of (one_of line.certificate t.certificate other.certificate t.has.text other.text) ∙ t.has.told))
one_told once line (Fault fault) (Fault found) (inl (inl none)) (inl (inl also)) = ap Fault (also.1.only fault none.1.first)
one_told once line (Fault fault) (Fault found) (inl (inl none)) (inl (inr front)) = absurd (front.0 none.0)
one_told once line (Fault fault) (Fault found) (inl (inr front)) (inl (inl none)) = absurd (front.0 none.0)
one_told once line (Fault fault) (Fault found) (inl (inr front)) (inl (inr also)) = ap Fault (front.1 ∙ sym also.1)
one_told once line (Fault fault) (Fault found) (inl (inl none)) (inr other) = absurd (none.1.none other.certificate other.text.read.0 other.text.read.1)
one_told once line (Fault fault) (Fault found) (inl (inr front)) (inr other) = absurd (front.0 other.bare)
one_told once line (Fault fault) (Fault found) (inr other) (inl (inl none)) = absurd (none.1.none other.certificate other.text.read.0 other.text.read.1)
one_told once line (Fault fault) (Fault found) (inr other) (inl (inr front)) = absurd (front.0 other.bare)
one_told once line (Fault fault) (Fault found) (inr other) (inr another) = ap Fault (other.is_head ∙ sym another.is_head)

-- a judged line of its parts
abbrev pub line_of : List ℕ → LineJudgement → JudgedView
line_of number told = record { number = number; told = told }

one_line : VerdictOnce → (line : ToldView) (one other : JudgedView) → IsLineJudged line one → IsLineJudged line other → one ≡ other
one_line once line one other s t =
    ap₂ line_of
    (s.number ∙ sym t.number) (one_told once line one.told other.told s.told t.told)

-- and lines have one list of judgements
pub one_judged : VerdictOnce → (lines : List ToldView) (one other : List JudgedView) → AreJudged lines one → AreJudged lines other → one ≡ other
one_judged once [] [] [] s t = refl
one_judged once [] [] (judged ∷ others) s t = absurd t
one_judged once [] (judged ∷ others) other s t = absurd s
one_judged once (line ∷ lines) [] other s t = absurd s
one_judged once (line ∷ lines) (judged ∷ others) [] s t = absurd t
one_judged once (line ∷ lines) (judged ∷ others) (also ∷ more) s t =
    ap₂ (λ (j : JudgedView) (js : List JudgedView). j ∷ js) (one_line once line judged also s.0 t.0) (one_judged once lines others more s.1 t.1)

-- the line for which one at a place was judged
pub line_at : (lines : List ToldView) (judged : List JudgedView) (place : ℕ) (one : JudgedView) → AreJudged lines judged → slice_get judged place ≡ Some one
    → (line : ToldView) × (slice_get lines place ≡ Some line) × IsLineJudged line one
line_at [] [] place one are stands = absurd (cc)
line_at [] (judged ∷ others) place one are stands = absurd are
line_at (line ∷ lines) [] place one are stands = absurd are
line_at (line ∷ lines) (judged ∷ others) zero one are stands =
    let is : judged ≡ one = cc in (line, refl, subst (λ (j : JudgedView). IsLineJudged line j) is are.0)
line_at (line ∷ lines) (judged ∷ others) (suc place) one are stands = line_at lines others place one are.1 stands

-- and the other way round
pub judged_at : (lines : List ToldView) (judged : List JudgedView) (place : ℕ) (line : ToldView) → AreJudged lines judged → slice_get lines place ≡ Some line
    → (one : JudgedView) × (slice_get judged place ≡ Some one) × IsLineJudged line one
judged_at [] judged place line are stands = absurd (cc)
judged_at (first ∷ lines) [] place line are stands = absurd are
judged_at (first ∷ lines) (judged ∷ others) zero line are stands =
    let is : first ≡ line = cc in (judged, refl, subst (λ (l : ToldView). IsLineJudged l judged) is are.0)
judged_at (first ∷ lines) (judged ∷ others) (suc place) line are stands = judged_at lines others place line are.1 stands

-- what was accepted is the text of a valid certificate
pub valid_text : (line : ToldView) (claim : Claim) (entries : ℕ) → IsLineAccepted line claim entries → IsValidText None line.certificate claim entries
valid_text line claim entries is = record {
  certificate = is.certificate;
  readable = is.has.text.read.0;
  text = is.has.text.read.1;
  is_claim = is.accepted.is_claim;
  count = is.accepted.count;
  board = problem_of is.certificate;
  judged_for = refl;
  valid = is.accepted.valid;
  shows = is.accepted.shows;
}

-- and that text is judged to be accepted
pub accepted_told : (line : ToldView) (told : LineJudgement) (claim : Claim) (entries : ℕ) → claim ≡ line.claim → IsBare line.certificate
    → IsValidText None line.certificate claim entries → IsTold line told → told ≡ Accepted claim entries
accepted_told line (Accepted claimed counted) claim entries says bare valid is =
    let same = is.has.text.only valid.certificate valid.readable valid.text in
    let also = subst (λ (c : Certificate). IsAcceptance (problem_of c) c claimed counted) (sym same) is.accepted in
    let one_claim : claimed ≡ claim = also.is_claim ∙ sym valid.is_claim in
    let one_count : counted ≡ entries = also.count ∙ sym valid.count in
    cc
accepted_told line (Refused entry why) claim entries says bare valid is =
    let same = is.has.text.only valid.certificate valid.readable valid.text in
    let also = subst (λ (c : Certificate). IsRefusal (problem_of c) c entry why) (sym same) is.refused in
    absurd (also.invalid (subst (λ (p : Board). IsValid valid.certificate p) valid.judged_for valid.valid))
accepted_told line (Fault fault) claim entries says bare valid (inl (inl none)) = absurd (none.1.none valid.certificate valid.readable valid.text)
accepted_told line (Fault fault) claim entries says bare valid (inl (inr front)) = absurd (front.0 bare)
accepted_told line (Fault fault) claim entries says bare valid (inr other) =
    absurd (other.another (ap claim_of (sym (other.text.only valid.certificate valid.readable valid.text)) ∙ sym valid.is_claim ∙ says))

-- what is told of a certificate for its own problem is told of its line
pub own_told : (line : ToldView) (c : Certificate) (told : LineJudgement) → HasCertificate line c → IsOwnJudgement c told → IsTold line told
own_told line c (Accepted claim entries) has is = record { certificate = c; has = has; accepted = is }
own_told line c (Refused entry why) has is = record { certificate = c; has = has; refused = is }
own_told line c (Fault fault) has is = absurd is
