-- What `check --collection` promises in plain words.
use Rattle.std.specs.Prelude.{◌≡◌, ◌≤◌, ◌↔◌, ◌⊎◌, ℕ, List, Option, Some, None, length, slice_get}
use Rattle.cert_text.specs.declared.head.Claim.{Claim}
use Rattle.collection_text.specs.Told.{ToldView, told_lines}
use Rattle.library_text.specs.Reading.{IsBare}
use Rattle.tsume_io.specs.Faults.{Rose}
use Rattle.one_run.specs.declared.ended.Ended.{Ended}
use Rattle.one_run.specs.declared.ended.Ended.TheVariants.{Answered}
use Rattle.one_run.specs.Outside.{Shown}
use Rattle.one_run.specs.Run.{IsAnswered, IsBrokenOff, IsRun, WantsMemory}
use Rattle.one_run.specs.Stops.{Signals, AreUnused}
use Rattle.cmd_check.specs.declared.asked.TheConstants.{MOST_CERTIFICATE_BYTES}
use Rattle.cmd_check.specs.Headline.{IsValidText}
use Rattle.cmd_certificates.specs.declared.asked.NoFault.{NoFault}
use Rattle.cmd_certificates.specs.declared.judged.LineJudgement.TheVariants.{Accepted}
use Rattle.cmd_certificates.specs.Answer.{AreJudged}
use Rattle.cmd_certificates.specs.Judged.{JudgedView}
use Rattle.cmd_certificates.specs.Meaning.{collection_meaning}

-- The line at this place, among those that tell a verdict, has this number and tells what is
-- claimed; and behind it stands the text of a certificate, without a front line, that claims it
-- too, lists so many positions, is valid for its own problem, and shows what it claims.
pub record IsValidAt (input : List ℕ) (place : ℕ) (number : List ℕ) (claim : Claim) (entries : ℕ) : Type 0 where
  pub line : ToldView
  pub stands : slice_get (told_lines input) place ≡ Some line
  pub is_number : number ≡ line.number
  pub is_told : claim ≡ line.claim
  pub bare : IsBare line.certificate
  pub valid : IsValidText None line.certificate claim entries

-- The run was answered, and the judged line at this place is that this number's certificate is
-- accepted, with this claim and so many entries.
pub record AcceptsAt (ended : Ended (List JudgedView) NoFault) (place : ℕ) (number : List ℕ) (claim : Claim) (entries : ℕ) : Type 0 where
  pub lines : List JudgedView
  pub answered : ended ≡ Answered lines
  pub stands : slice_get lines place ≡ Some (record { number = number; told = Accepted claim entries })

-- The bytes that the source has left are short enough; they may be any.
pub record HasBytesLeft (left : Option (List ℕ)) : Type 0 where
  pub input : List ℕ
  pub told : left ≡ Some input
  pub short : length input ≤ MOST_CERTIFICATE_BYTES

-- A run of `check --collection` kept all that it promises, for whoever hands it on, whatever stops
-- there are, which it leaves alone.
pub record IsCollectionRun (source sink : Shown) (ended : Ended (List JudgedView) NoFault) : Type 0 where
  pub accepted : (input : List ℕ) (place : ℕ) (number : List ℕ) (claim : Claim) (entries : ℕ) → source.told ≡ Some input
      → ¬ IsBrokenOff ended → (AcceptsAt ended place number claim entries ↔ IsValidAt input place number claim entries)
  pub same : (input : List ℕ) (judged : List JudgedView) → source.told ≡ Some input → ¬ IsBrokenOff ended
      → AreJudged (told_lines input) judged → ended ≡ Answered judged
  pub run : (stops : Signals) → AreUnused stops → IsRun collection_meaning stops source sink ended
  pub complete : HasBytesLeft source.told → ¬ Rose source.faults source.faults_after
      → ¬ Rose sink.faults sink.faults_after → IsAnswered ended ⊎ WantsMemory ended
