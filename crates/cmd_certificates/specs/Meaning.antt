-- What `check` means where the text is what a collection printed.
use Rattle.std.specs.Prelude.{List, ⊤}
use Rattle.collection_text.specs.Told.{told_lines}
use Rattle.one_run.specs.Command.{Meaning}
use Rattle.one_run.specs.Stops.{AreUnused}
use Rattle.cmd_check.specs.declared.asked.TheConstants.{MOST_CERTIFICATE_BYTES}
use Rattle.cmd_certificates.specs.declared.asked.NoFault.{NoFault}
use Rattle.cmd_certificates.specs.Answer.{AreJudged}
use Rattle.cmd_certificates.specs.Judged.{JudgedView}
use Rattle.cmd_certificates.specs.Text.{collection_text}

-- What it means: a text has so many bytes at most, and no fault as a whole; an answer judges the
-- lines of the text that tell a verdict; the text of an answer is that of its judgements; and no
-- stop is used.
abbrev pub collection_meaning : Meaning (List JudgedView) NoFault
collection_meaning = record {
  limit = MOST_CERTIFICATE_BYTES;
  IsTrue = λ stops input judged. AreJudged (told_lines input) judged;
  IsFault = λ input fault. ⊥;
  HasText = λ judged. ⊤;
  text_of = collection_text;
  Uses = AreUnused;
}
