-- What `check` promises in plain words.
use Rattle.std.specs.Prelude.{◌≡◌, ◌≤◌, ◌↔◌, ◌⊎◌, ℕ, List, Option, Some, length}
use Rattle.board_core.specs.Board.{Board}
use Rattle.cert_text.specs.declared.certificate.Certificate.{Certificate}
use Rattle.cert_text.specs.declared.fault.CertFault.{CertFault}
use Rattle.cert_text.specs.declared.head.Claim.{Claim}
use Rattle.cert_text.specs.Kinds.{claim_of, positions_in}
use Rattle.cert_text.specs.Reading.{IsReadable, IsTextOf}
use Rattle.cert_check.specs.Valid.{IsValid, Shows}
use Rattle.tsume_io.specs.Faults.{Rose}
use Rattle.app_texts.specs.declared.answer.Judgement.{Judgement}
use Rattle.app_texts.specs.declared.answer.Judgement.TheVariants.{Accepted}
use Rattle.one_run.specs.declared.ended.Ended.{Ended}
use Rattle.one_run.specs.declared.ended.Ended.TheVariants.{Answered}
use Rattle.cmd_check.specs.declared.asked.TheConstants.{MOST_CERTIFICATE_BYTES}
use Rattle.one_run.specs.Outside.{Shown}
use Rattle.one_run.specs.Run.{IsAnswered, IsBrokenOff, IsRun, WantsMemory}
use Rattle.one_run.specs.Stops.{Signals, AreUnused}
use Rattle.cmd_check.specs.Answer.{IsJudged}
use Rattle.cmd_check.specs.Asked.{IsJudgedFor}
use Rattle.cmd_check.specs.Meaning.{check_meaning}

-- The bytes are the text of a certificate that claims this, lists so many positions, is valid for
-- the problem whose text is given, or for its own where none is, and shows what it claims.
pub record IsValidText (problem : Option (List ℕ)) (input : List ℕ) (claim : Claim) (entries : ℕ) : Type 0 where
  pub certificate : Certificate
  pub readable : IsReadable certificate
  pub text : IsTextOf certificate input
  pub is_claim : claim ≡ claim_of certificate
  pub count : entries ≡ length (positions_in certificate)
  pub board : Board
  pub judged_for : IsJudgedFor problem certificate board
  pub valid : IsValid certificate board
  pub shows : Shows certificate board

-- The bytes that the source has left are the text of a certificate, and short enough.
pub record HasCertificateLeft (left : Option (List ℕ)) : Type 0 where
  pub input : List ℕ
  pub certificate : Certificate
  pub told : left ≡ Some input
  pub short : length input ≤ MOST_CERTIFICATE_BYTES
  pub readable : IsReadable certificate
  pub text : IsTextOf certificate input

-- A run of `check` kept all that it promises, for whoever hands it on, whatever stops there are,
-- which it leaves alone.
pub record IsCheckRun (problem : Option (List ℕ)) (source sink : Shown) (ended : Ended Judgement CertFault) : Type 0 where
  pub accepted : (input : List ℕ) (claim : Claim) (entries : ℕ) → source.told ≡ Some input → ¬ IsBrokenOff ended
      → ((ended ≡ Answered (Accepted claim entries)) ↔ IsValidText problem input claim entries)
  pub same : (input : List ℕ) (judgement : Judgement) → source.told ≡ Some input → ¬ IsBrokenOff ended → IsJudged problem input judgement
      → ended ≡ Answered judgement
  pub run : (stops : Signals) → AreUnused stops → IsRun (check_meaning problem) stops source sink ended
  pub complete : HasCertificateLeft source.told → ¬ Rose source.faults source.faults_after
      → ¬ Rose sink.faults sink.faults_after → IsAnswered ended ⊎ WantsMemory ended
