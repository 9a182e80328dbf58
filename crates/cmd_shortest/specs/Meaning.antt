-- What `shortest` means.
use Rattle.std.specs.Prelude.{Err}
use Rattle.app_texts.specs.declared.fault.ProblemFault.{ProblemFault}
use Rattle.problem_answers.specs.Reading.{StandsFor}
use Rattle.problem_lines.specs.declared.line.TheConstants.{MOST_PROBLEM_BYTES}
use Rattle.one_run.specs.Command.{Meaning}
use Rattle.one_run.specs.Stops.{AreUsed, once_armed}
use Rattle.shortest_mate.specs.Finding.{IsPrintable}
use Rattle.cmd_shortest.specs.Answer.{IsAnswered}
use Rattle.cmd_shortest.specs.Asked.{ShortestView}
use Rattle.cmd_shortest.specs.Text.{finding_text}
use Rattle.cmd_shortest.specs.declared.answer.ShortestAnswer.{ShortestAnswer}

-- What `shortest` means: a text has so many bytes at most; an answer is what was found of the
-- problem that the text stands for, and a fault the text's; the text of an answer is that of what
-- was found; and where the text stands for a problem, the one stop is used with the deadline.
abbrev pub shortest_meaning : ShortestView → Meaning ShortestAnswer ProblemFault
shortest_meaning asked = record {
  limit = MOST_PROBLEM_BYTES;
  IsTrue = λ stops. IsAnswered asked (once_armed asked.watch.deadline stops);
  IsFault = λ input fault. StandsFor asked.form input (Err fault);
  HasText = λ answer. IsPrintable answer.finding;
  text_of = λ answer. finding_text answer.finding;
  Uses = AreUsed 1 asked.watch.deadline;
}
