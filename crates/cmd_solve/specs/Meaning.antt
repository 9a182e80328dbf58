-- What `solve` means.
use Rattle.std.specs.Prelude.{Err}
use Rattle.search_limits.specs.Sizes.{SettingsView}
use Rattle.tsume_words.specs.declared.form.ProblemForm.{ProblemForm}
use Rattle.tsume_words.specs.Given.{WatchView}
use Rattle.app_texts.specs.declared.answer.Solution.{Solution}
use Rattle.app_texts.specs.declared.fault.ProblemFault.{ProblemFault}
use Rattle.app_texts.specs.Texts.{HasLine, solution_text}
use Rattle.problem_answers.specs.Reading.{StandsFor}
use Rattle.problem_lines.specs.declared.line.TheConstants.{MOST_PROBLEM_BYTES}
use Rattle.one_run.specs.Command.{Meaning}
use Rattle.one_run.specs.Stops.{AreUsed, once_armed}
use Rattle.cmd_solve.specs.Answer.{IsSolution}

-- What `solve` is asked: the numbers of its search, the form of the problem, and how the search is
-- watched.
pub record SolveView : Type 0 where
  pub settings : SettingsView
  pub form : ProblemForm
  pub watch : WatchView

-- What `solve` means: a text has so many bytes at most; an answer is a solution of the problem that
-- the text stands for, and a fault the text's; the text of an answer is the solution's; and where
-- the text stands for a problem, the stops are used with the deadline, one for each worker.
abbrev pub solve_meaning : SolveView → Meaning Solution ProblemFault
solve_meaning asked = record {
  limit = MOST_PROBLEM_BYTES;
  IsTrue = λ stops. IsSolution asked.form asked.settings (once_armed asked.watch.deadline stops);
  IsFault = λ input fault. StandsFor asked.form input (Err fault);
  HasText = HasLine;
  text_of = solution_text;
  Uses = AreUsed asked.settings.workers asked.watch.deadline;
}
