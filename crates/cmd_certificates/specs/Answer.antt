-- When the judgements on the lines of a collection are true.
use Rattle.std.specs.Prelude.{◌≡◌, ◌⊎◌, ℕ, List, [], ◌∷◌}
use Rattle.cert_text.specs.declared.certificate.Certificate.{Certificate}
use Rattle.cert_text.specs.declared.fault.CertFault.{CertFault}
use Rattle.cert_text.specs.declared.fault.CertFault.TheVariants.{BadHead}
use Rattle.cert_text.specs.declared.head.Claim.{Claim}
use Rattle.cert_text.specs.Kinds.{claim_of, problem_of}
use Rattle.cert_check.specs.declared.verdict.Why.{Why}
use Rattle.collection_text.specs.Told.{ToldView}
use Rattle.library_text.specs.Reading.{IsBare}
use Rattle.cmd_check.specs.Answer.{IsAcceptance, IsNoCertificate, IsRefusal, IsTextOfOne}
use Rattle.cmd_certificates.specs.declared.judged.LineJudgement.{LineJudgement}
use Rattle.cmd_certificates.specs.declared.judged.LineJudgement.TheVariants.{Accepted, Refused, Fault}
use Rattle.cmd_certificates.specs.Judged.{JudgedView}

-- Behind a line stands the text of one certificate, without a front line, which claims what the
-- line tells.
pub record HasCertificate (line : ToldView) (certificate : Certificate) : Type 0 where
  pub bare : IsBare line.certificate
  pub text : IsTextOfOne line.certificate certificate
  pub told : claim_of certificate ≡ line.claim

-- The certificate behind a line was accepted so, for its own problem.
pub record IsLineAccepted (line : ToldView) (claim : Claim) (entries : ℕ) : Type 0 where
  pub certificate : Certificate
  pub has : HasCertificate line certificate
  pub accepted : IsAcceptance (problem_of certificate) certificate claim entries

-- It was refused so, for its own problem.
pub record IsLineRefused (line : ToldView) (entry : ℕ) (why : Why) : Type 0 where
  pub certificate : Certificate
  pub has : HasCertificate line certificate
  pub refused : IsRefusal (problem_of certificate) certificate entry why

-- Behind a line stands the text of one certificate, without a front line, which claims another
-- verdict than the line tells: its head is at fault.
pub record IsOfAnother (line : ToldView) (fault : CertFault) : Type 0 where
  pub certificate : Certificate
  pub bare : IsBare line.certificate
  pub text : IsTextOfOne line.certificate certificate
  pub another : ¬ (claim_of certificate ≡ line.claim)
  pub is_head : fault ≡ BadHead

-- Behind a line stands no certificate's text, and it has this first fault; where it doesn't begin
-- as a certificate's first line does, but with a front line, say, its head is at fault.
abbrev pub HasNoCertificate : List ℕ → CertFault → Type 0
HasNoCertificate text fault = (IsBare text × IsNoCertificate text fault) ⊎ ((¬ IsBare text) × (fault ≡ BadHead))

-- What is told of the certificate behind a line is true: it was accepted so, or refused so; or what
-- stands there is no certificate and has this first fault, or one of another verdict.
abbrev pub IsTold : ToldView → LineJudgement → Type 0
IsTold line (Accepted claim entries) = IsLineAccepted line claim entries
IsTold line (Refused entry why) = IsLineRefused line entry why
IsTold line (Fault fault) = HasNoCertificate line.certificate fault ⊎ IsOfAnother line fault

-- A line that tells a verdict was judged so: under its number, as it is written, what is told of
-- its certificate is true.
pub record IsLineJudged (line : ToldView) (judged : JudgedView) : Type 0 where
  pub number : judged.number ≡ line.number
  pub told : IsTold line judged.told

-- Lines that tell a verdict were judged so: each of them, in their order, and no other.
abbrev pub AreJudged : List ToldView → List JudgedView → Type 0
AreJudged [] [] = Unit {0}
AreJudged [] (judged ∷ others) = ⊥
AreJudged (line ∷ lines) [] = ⊥
AreJudged (line ∷ lines) (judged ∷ others) = IsLineJudged line judged × AreJudged lines others
