-- When a judgement is true.
use Rattle.std.specs.Prelude.{◌≡◌, ℕ, List, Option, Ok, length}
use Rattle.board_core.specs.Board.{Board}
use Rattle.cert_text.specs.declared.certificate.Certificate.{Certificate}
use Rattle.cert_text.specs.declared.fault.CertFault.{CertFault}
use Rattle.cert_text.specs.declared.head.Claim.{Claim}
use Rattle.cert_text.specs.Kinds.{claim_of, positions_in}
use Rattle.cert_text.specs.Reading.{HasFirstFault, IsReadable, IsTextOf, IsCertificateOutcome}
use Rattle.cert_check.specs.declared.verdict.Why.{Why}
use Rattle.cert_check.specs.Valid.{IsValid, Shows}
use Rattle.cert_check.specs.Reasons.{IsFirstAgainst}
use Rattle.app_texts.specs.declared.answer.Judgement.{Judgement}
use Rattle.app_texts.specs.declared.answer.Judgement.TheVariants.{Accepted, Refused}
use Rattle.cmd_check.specs.Asked.{IsJudgedFor}

-- A certificate was accepted for a problem: it is valid for it, and shows what it claims.
pub record IsAcceptance (p : Board) (c : Certificate) (claim : Claim) (entries : ℕ) : Type 0 where
  pub valid : IsValid c p
  pub shows : Shows c p
  pub is_claim : claim ≡ claim_of c
  pub count : entries ≡ length (positions_in c)

-- A certificate was refused for a problem: it isn't valid for it, and this is the first reason.
-- (Where it is about another, that is the reason against it as a whole.)
pub record IsRefusal (p : Board) (c : Certificate) (entry : ℕ) (why : Why) : Type 0 where
  pub invalid : ¬ IsValid c p
  pub first : IsFirstAgainst c p entry why

-- A judgement is true of a certificate for a problem: it was accepted so, or refused so.
abbrev pub IsTrueOfCertificate : Board → Certificate → Judgement → Type 0
IsTrueOfCertificate p c (Accepted claim entries) = IsAcceptance p c claim entries
IsTrueOfCertificate p c (Refused entry why) = IsRefusal p c entry why

-- The bytes of an input are the text of this certificate, and of no other.
pub record IsTextOfOne (input : List ℕ) (certificate : Certificate) : Type 0 where
  pub read : IsCertificateOutcome input (Ok certificate)
  pub only : (c : Certificate) → IsReadable c → IsTextOf c input → c ≡ certificate

-- The bytes of an input are the text of one certificate, of which the judgement is true, for the
-- problem whose text the words give, or for its own.
pub record IsJudged (problem : Option (List ℕ)) (input : List ℕ) (judgement : Judgement) : Type 0 where
  pub certificate : Certificate
  pub text : IsTextOfOne input certificate
  pub board : Board
  pub judged_for : IsJudgedFor problem certificate board
  pub true_of : IsTrueOfCertificate board certificate judgement

-- The bytes of an input are no certificate's text, and have this first fault as one, and no other.
pub record IsNoCertificate (input : List ℕ) (fault : CertFault) : Type 0 where
  pub first : HasFirstFault input fault
  pub only : (other : CertFault) → HasFirstFault input other → other ≡ fault
  pub none : (c : Certificate) → IsReadable c → ¬ IsTextOf c input
