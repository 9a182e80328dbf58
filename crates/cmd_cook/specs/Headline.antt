-- What `cook` promises in plain words.
use Rattle.std.specs.Prelude.{◌≡◌, ◌≤◌, ◌⊎◌, ℕ, List, Option, Some, Ok, length}
use Rattle.board_core.specs.Board.{Board}
use Rattle.board_core.specs.Kept.{IsKept}
use Rattle.shogi_rules.specs.Tsume.{IsProblem}
use Rattle.search_limits.specs.Sizes.{SettingsView}
use Rattle.tsume_io.specs.Faults.{Rose}
use Rattle.tsume_words.specs.declared.form.ProblemForm.{ProblemForm}
use Rattle.problem_answers.specs.Reading.{StandsFor}
use Rattle.problem_lines.specs.declared.line.TheConstants.{MOST_PROBLEM_BYTES}
use Rattle.one_run.specs.declared.ended.Ended.{Ended}
use Rattle.one_run.specs.declared.ended.Ended.TheVariants.{Answered}
use Rattle.one_run.specs.Outside.{Shown}
use Rattle.one_run.specs.Run.{IsEnded, AreUsedTill, IsCounted, IsAnswered, WantsMemory}
use Rattle.one_run.specs.Stops.{Signals, once_armed}
use Rattle.cook_report.specs.declared.report.Line.{Line}
use Rattle.cook_report.specs.Shown.{Shows}
use Rattle.cook_report.specs.Valid.{ValidReport}
use Rattle.cook_line.specs.Stages.{word_along}
use Rattle.cook_line.specs.Turns.{LineSays}
use Rattle.cmd_cook.specs.Answer.{IsLineSound, IsLineTold, IsSearchedFor}
use Rattle.cmd_cook.specs.Asked.{CookView}
use Rattle.cmd_cook.specs.Meaning.{cook_meaning}
use Rattle.cmd_cook.specs.declared.answer.CookAnswer.{CookAnswer}
use Rattle.cmd_cook.specs.declared.answer.CookAnswer.TheVariants.{Report, Lines}
use Rattle.cmd_cook.specs.declared.answer.ToldLine.{ToldLine}
use Rattle.cmd_cook.specs.declared.answer.ToldReport.{ToldReport}
use Rattle.cmd_cook.specs.declared.fault.CookFault.{CookFault}

-- The run ended with a report, which was printed.
abbrev pub Reports : Ended CookAnswer CookFault → List Line → Type 0
Reports ended lines = (told : ToldReport) × (told.report ≡ lines) × (ended ≡ Answered (Report told))

-- The run ended with what is told along a line, which was printed.
abbrev pub ReportsLine : Ended CookAnswer CookFault → ToldLine → Type 0
ReportsLine ended told = ended ≡ Answered (Lines told)

-- The bytes stand for a problem, for which the report is valid; and it shows what its lines and its
-- word say: that a check mates, since every evasion to it leads to a mate, or that it doesn't,
-- since its evasion leads to none; that exactly one first check mates (sound), that two do
-- (cooked), or that the problem is no mate.
pub record StandsForReport (form : ProblemForm) (input : List ℕ) (lines : List Line) : Type 0 where
  pub problem : Board
  pub stands_for : StandsFor form input (Ok problem)
  pub valid : ValidReport problem lines
  pub shows : Shows problem lines

-- The report is valid for a problem, and shows what it says of it.
pub record NamesReport (lines : List Line) : Type 0 where
  pub problem : Board
  pub kept : IsKept problem
  pub is_problem : IsProblem problem
  pub valid : ValidReport problem lines
  pub shows : Shows problem lines

-- The bytes stand for a problem, from which the line that the words give is one of moves. What is
-- told of it has a stage for each of its checks: whether there is an evasion to it; and a report
-- that is valid for the position after that many moves of the line, and shows what it says. And the
-- line is what its word says: sound, that at each position whose check has an evasion this check
-- mates and no other; cooked, that at one of these another mates; or no mate, that one of these is
-- no mate.
pub record StandsForLine (form : ProblemForm) (line : Option (List ℕ)) (input : List ℕ) (told : ToldLine) : Type 0 where
  pub problem : Board
  pub stands_for : StandsFor form input (Ok problem)
  pub told_of : IsLineTold line problem told
  pub says : LineSays (word_along told.stages.items) problem told.moves.items

-- The same of a problem.
pub record NamesLine (line : Option (List ℕ)) (told : ToldLine) : Type 0 where
  pub problem : Board
  pub kept : IsKept problem
  pub is_problem : IsProblem problem
  pub told_of : IsLineTold line problem told
  pub says : LineSays (word_along told.stages.items) problem told.moves.items

-- The bytes stand for a problem, on which searches with these settings were made, or along the line
-- from it, one after the other, which polled these stops: each line of a report tells what came out
-- of those of its position, and these are the workers of those that gave up.
pub record StandsForSearches (form : ProblemForm) (settings : SettingsView) (stops : Signals) (input : List ℕ) (answer : CookAnswer) : Type 0 where
  pub problem : Board
  pub stands_for : StandsFor form input (Ok problem)
  pub found : IsSearchedFor problem settings stops answer

-- The bytes that the source has left are a problem, and short enough; and the line that the words
-- give, if they do, is one of moves from it.
pub record HasProblemLeft (form : ProblemForm) (line : Option (List ℕ)) (left : Option (List ℕ)) : Type 0 where
  pub input : List ℕ
  pub problem : Board
  pub told : left ≡ Some input
  pub short : length input ≤ MOST_PROBLEM_BYTES
  pub stands_for : StandsFor form input (Ok problem)
  pub line_sound : IsLineSound line problem

-- A run of `cook` kept all that it promises, clause by clause, for whoever hands it on.
pub record IsCookRun (asked : CookView) (stops : Signals) (source sink : Shown) (ended : Ended CookAnswer CookFault) : Type 0 where
  pub report : (input : List ℕ) (lines : List Line) → source.told ≡ Some input → Reports ended lines → StandsForReport asked.solve.form input lines
  pub own_report : (lines : List Line) → Reports ended lines → NamesReport lines
  pub along : (input : List ℕ) (told : ToldLine) → source.told ≡ Some input → ReportsLine ended told → StandsForLine asked.solve.form asked.line input told
  pub own_along : (told : ToldLine) → ReportsLine ended told → NamesLine asked.line told
  pub searches : (input : List ℕ) (answer : CookAnswer) → source.told ≡ Some input → ended ≡ Answered answer
      → StandsForSearches asked.solve.form asked.solve.settings (once_armed asked.solve.watch.deadline stops) input answer
  pub does : IsEnded (cook_meaning asked) stops source sink ended
  pub used : AreUsedTill (cook_meaning asked) stops ended
  pub counted : IsCounted source sink ended
  pub complete : HasProblemLeft asked.solve.form asked.line source.told → ¬ Rose source.faults source.faults_after
      → ¬ Rose sink.faults sink.faults_after
      → IsAnswered ended ⊎ WantsMemory ended
