-- What `check` means.
use Rattle.std.specs.Prelude.{ℕ, List, Option, ⊤}
use Rattle.cert_text.specs.declared.fault.CertFault.{CertFault}
use Rattle.app_texts.specs.declared.answer.Judgement.{Judgement}
use Rattle.app_texts.specs.Texts.{judgement_text}
use Rattle.one_run.specs.Command.{Meaning}
use Rattle.one_run.specs.Stops.{AreUnused}
use Rattle.cmd_check.specs.declared.asked.TheConstants.{MOST_CERTIFICATE_BYTES}
use Rattle.cmd_check.specs.Answer.{IsJudged, IsNoCertificate}

-- What `check` means, by the text of the problem that the words give, if any: a text has so many
-- bytes at most; an answer is a judgement on the certificate that the text is, and a fault the
-- text's; the text of an answer is the judgement's; and no stop is used.
abbrev pub check_meaning : Option (List ℕ) → Meaning Judgement CertFault
check_meaning problem = record {
  limit = MOST_CERTIFICATE_BYTES;
  IsTrue = λ stops input judgement. IsJudged problem input judgement;
  IsFault = IsNoCertificate;
  HasText = λ judgement. ⊤;
  text_of = judgement_text;
  Uses = AreUnused;
}
