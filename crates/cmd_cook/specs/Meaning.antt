-- What `cook` means.
use Rattle.std.specs.Prelude.{⊤}
use Rattle.problem_lines.specs.declared.line.TheConstants.{MOST_PROBLEM_BYTES}
use Rattle.one_run.specs.Command.{Meaning}
use Rattle.one_run.specs.Stops.{AreUsed, once_armed}
use Rattle.cmd_cook.specs.Answer.{IsCookAnswer, IsCookFault}
use Rattle.cmd_cook.specs.Asked.{CookView}
use Rattle.cmd_cook.specs.Text.{answer_text}
use Rattle.cmd_cook.specs.declared.answer.CookAnswer.{CookAnswer}
use Rattle.cmd_cook.specs.declared.fault.CookFault.{CookFault}

-- What `cook` means: a text has so many bytes at most; an answer is what is told of the checks of
-- the problem that the text stands for, or along the line from it that the words give; a fault is
-- the text's, or the line's; the text of an answer is that of its reports; and where the text
-- stands for a problem and the line is one from it, the stops are used with the deadline, one for
-- each worker.
abbrev pub cook_meaning : CookView → Meaning CookAnswer CookFault
cook_meaning asked = record {
  limit = MOST_PROBLEM_BYTES;
  IsTrue = λ stops. IsCookAnswer asked.solve.form asked.line asked.solve.settings (once_armed asked.solve.watch.deadline stops);
  IsFault = IsCookFault asked.solve.form asked.line;
  HasText = λ answer. ⊤;
  text_of = answer_text;
  Uses = AreUsed asked.solve.settings.workers asked.solve.watch.deadline;
}
