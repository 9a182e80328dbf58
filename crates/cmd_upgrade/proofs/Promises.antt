-- The promise in plain words, from how a run ended.
use Rattle.std.proofs.Common.{◌≡◌, ℕ, List, Option, Some, refl, subst, sym}
use Rattle.cert_text.specs.declared.certificate.Certificate.{Certificate}
use Rattle.cert_text.specs.declared.fault.CertFault.{CertFault}
use Rattle.cert_text.specs.Kinds.{problem_of}
use Rattle.cert_text.specs.Reading.{IsTextOf}
use Rattle.cert_check.specs.Valid.{IsValid}
use Rattle.one_run.specs.declared.ended.Ended.{Ended}
use Rattle.one_run.specs.declared.ended.Ended.TheVariants.{Answered, CutShort, Failed}
use Rattle.one_run.specs.declared.ended.Fault.TheVariants.{Text, TooLong, Read, NoMemory}
use Rattle.one_run.specs.Outside.{Shown}
use Rattle.one_run.specs.Run.{IsBrokenOff, IsEnded, IsWellPosed}
use Rattle.one_run.specs.Stops.{Signals}
use Rattle.one_run.proofs.Offered.{took_it}
use Rattle.cmd_check.specs.Answer.{IsTextOfOne}
use Rattle.cmd_check.specs.Headline.{HasCertificateLeft}
use Rattle.cmd_upgrade.specs.declared.answer.UpgradeAnswer.{UpgradeAnswer}
use Rattle.cmd_upgrade.specs.declared.answer.UpgradeAnswer.TheVariants.{Upgraded, Refused}
use Rattle.cmd_upgrade.specs.Headline.{EndsUpgraded, IsUpgradedFrom, IsValidForItsOwn}
use Rattle.cmd_upgrade.specs.Meaning.{upgrade_meaning}

-- what was written is a valid certificate's in version 2
pub upgraded_of : (stops : Signals) (source sink : Shown) (input : List ℕ) (found : Certificate) (ended : Ended UpgradeAnswer CertFault)
    → IsEnded upgrade_meaning stops source sink ended → source.told ≡ Some input → ended ≡ Answered (Upgraded found) → IsUpgradedFrom input found
upgraded_of stops source sink input found ended is told upgraded =
    let d = (subst (λ (e : Ended UpgradeAnswer CertFault). IsEnded upgrade_meaning stops source sink e) upgraded is).decided in
    record {
      certificate = d.true_of.certificate;
      readable = d.true_of.text.read.0;
      text = subst (IsTextOf d.true_of.certificate) (took_it source.told source.told_after d.input input told d.read.took) d.true_of.text.read.1;
      upgrade = d.true_of.true_of;
    }

-- a valid certificate's text gets it in version 2
pub valid_of : (stops : Signals) (source sink : Shown) (input : List ℕ) (ended : Ended UpgradeAnswer CertFault)
    → IsEnded upgrade_meaning stops source sink ended → source.told ≡ Some input → ¬ IsBrokenOff ended → IsValidForItsOwn input → EndsUpgraded ended
valid_of stops source sink input (Answered (Upgraded found)) ended told whole is = (found, refl)
valid_of stops source sink input (Answered (Refused entry why)) ended told whole is =
    let d = ended.decided in
    let one = subst (λ (i : List ℕ). IsTextOfOne i d.true_of.certificate) (took_it source.told source.told_after d.input input told d.read.took) d.true_of.text in
    let valid = subst (λ (c : Certificate). IsValid c (problem_of c)) (one.only is.certificate is.readable is.text) is.valid in
    absurd (d.true_of.true_of.invalid valid)
valid_of stops source sink input (CutShort answer) ended told whole is = absurd (whole tt)
valid_of stops source sink input (Failed (Text fault) kept) ended told whole is =
    let text = subst (IsTextOf is.certificate) (sym (took_it source.told source.told_after kept input told ended.0.0.took)) is.text in
    absurd (ended.0.1.none is.certificate is.readable text)
valid_of stops source sink input (Failed TooLong kept) ended told whole is = absurd (whole tt)
valid_of stops source sink input (Failed Read kept) ended told whole is = absurd (whole tt)
valid_of stops source sink input (Failed NoMemory kept) ended told whole is = absurd (whole tt)

-- what is a certificate's text has no fault
pub posed_of : (left : Option (List ℕ)) → HasCertificateLeft left → IsWellPosed upgrade_meaning left
posed_of left given = record {
  input = given.input;
  told = given.told;
  short = given.short;
  faultless = λ fault is. is.none given.certificate given.readable given.text;
}
