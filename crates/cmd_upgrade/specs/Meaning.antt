-- What `upgrade` means.
use Rattle.std.specs.Prelude.{⊤}
use Rattle.cert_text.specs.declared.fault.CertFault.{CertFault}
use Rattle.one_run.specs.Command.{Meaning}
use Rattle.one_run.specs.Stops.{AreUnused}
use Rattle.cmd_check.specs.declared.asked.TheConstants.{MOST_CERTIFICATE_BYTES}
use Rattle.cmd_check.specs.Answer.{IsNoCertificate}
use Rattle.cmd_upgrade.specs.declared.answer.UpgradeAnswer.{UpgradeAnswer}
use Rattle.cmd_upgrade.specs.Answer.{IsAnswered}
use Rattle.cmd_upgrade.specs.Text.{answer_text}

-- What it means: a text has so many bytes at most; an answer is a certificate in version 2 or a
-- refusal, and a fault is the text's as a certificate's; and no stop is used.
abbrev pub upgrade_meaning : Meaning UpgradeAnswer CertFault
upgrade_meaning = record {
  limit = MOST_CERTIFICATE_BYTES;
  IsTrue = λ stops input answer. IsAnswered input answer;
  IsFault = IsNoCertificate;
  HasText = λ answer. ⊤;
  text_of = answer_text;
  Uses = AreUnused;
}
