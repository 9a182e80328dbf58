-- What `upgrade` promises in plain words.
use Rattle.std.specs.Prelude.{◌≡◌, ◌⊎◌, ℕ, List, Some}
use Rattle.cert_text.specs.declared.certificate.Certificate.{Certificate}
use Rattle.cert_text.specs.declared.fault.CertFault.{CertFault}
use Rattle.cert_text.specs.Kinds.{problem_of}
use Rattle.cert_text.specs.Reading.{IsReadable, IsTextOf}
use Rattle.cert_check.specs.Valid.{IsValid}
use Rattle.tsume_io.specs.Faults.{Rose}
use Rattle.one_run.specs.declared.ended.Ended.{Ended}
use Rattle.one_run.specs.declared.ended.Ended.TheVariants.{Answered}
use Rattle.one_run.specs.Outside.{Shown}
use Rattle.one_run.specs.Run.{IsAnswered, IsBrokenOff, IsRun, WantsMemory}
use Rattle.one_run.specs.Stops.{Signals, AreUnused}
use Rattle.cmd_check.specs.Headline.{HasCertificateLeft}
use Rattle.cmd_upgrade.specs.declared.answer.UpgradeAnswer.{UpgradeAnswer}
use Rattle.cmd_upgrade.specs.declared.answer.UpgradeAnswer.TheVariants.{Upgraded}
use Rattle.cmd_upgrade.specs.Answer.{IsUpgradeOf}
use Rattle.cmd_upgrade.specs.Meaning.{upgrade_meaning}

-- The bytes are the text of a certificate that is valid for its own problem.
pub record IsValidForItsOwn (input : List ℕ) : Type 0 where
  pub certificate : Certificate
  pub readable : IsReadable certificate
  pub text : IsTextOf certificate input
  pub valid : IsValid certificate (problem_of certificate)

-- The bytes are the text of a certificate that is valid for its own problem, and this is the same
-- in version 2.
pub record IsUpgradedFrom (input : List ℕ) (found : Certificate) : Type 0 where
  pub certificate : Certificate
  pub readable : IsReadable certificate
  pub text : IsTextOf certificate input
  pub upgrade : IsUpgradeOf certificate found

-- The run ended with a certificate.
abbrev pub EndsUpgraded : Ended UpgradeAnswer CertFault → Type 0
EndsUpgraded ended = (found : Certificate) × (ended ≡ Answered (Upgraded found))

-- A run of `upgrade` kept all that it promises, for whoever hands it on, whatever stops there are,
-- which it leaves alone.
pub record IsUpgradeRun (source sink : Shown) (ended : Ended UpgradeAnswer CertFault) : Type 0 where
  pub upgraded : (input : List ℕ) (found : Certificate) → source.told ≡ Some input → ended ≡ Answered (Upgraded found)
      → IsUpgradedFrom input found
  pub valid : (input : List ℕ) → source.told ≡ Some input → ¬ IsBrokenOff ended → IsValidForItsOwn input → EndsUpgraded ended
  pub run : (stops : Signals) → AreUnused stops → IsRun upgrade_meaning stops source sink ended
  pub complete : HasCertificateLeft source.told → ¬ Rose source.faults source.faults_after
      → ¬ Rose sink.faults sink.faults_after → IsAnswered ended ⊎ WantsMemory ended
