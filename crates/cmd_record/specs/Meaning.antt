-- What `record` means.
use Rattle.one_run.specs.Command.{Meaning}
use Rattle.one_run.specs.Stops.{AreUnused}
use Rattle.cmd_check.specs.declared.asked.TheConstants.{MOST_CERTIFICATE_BYTES}
use Rattle.cmd_record.specs.declared.answer.RecordAnswer.{RecordAnswer}
use Rattle.cmd_record.specs.declared.fault.RecordFault.{RecordFault}
use Rattle.cmd_record.specs.Answer.{HasFault, IsAnswered}
use Rattle.cmd_record.specs.Text.{HasText, answer_text}

-- What it means: a text has so many bytes at most; an answer is a record or a refusal; and no stop
-- is used.
abbrev pub record_meaning : Meaning RecordAnswer RecordFault
record_meaning = record {
  limit = MOST_CERTIFICATE_BYTES;
  IsTrue = λ stops input answer. IsAnswered input answer;
  IsFault = HasFault;
  HasText = HasText;
  text_of = answer_text;
  Uses = AreUnused;
}
