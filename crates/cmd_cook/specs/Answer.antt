-- When an answer to `cook` is true, and when there is a fault.
use Rattle.std.specs.Prelude.{◌≡◌, ℕ, List, Option, Some, None, Ok, Err}
use Rattle.board_core.specs.declared.moves.Move.{Move}
use Rattle.board_core.specs.Board.{Board}
use Rattle.board_core.specs.Kept.{IsKept}
use Rattle.shogi_rules.specs.Tsume.{IsProblem}
use Rattle.search_limits.specs.Sizes.{SettingsView}
use Rattle.tsume_words.specs.declared.form.ProblemForm.{ProblemForm}
use Rattle.problem_answers.specs.Reading.{StandsFor}
use Rattle.one_run.specs.Stops.{Signals}
use Rattle.cook_along.specs.Found.{AreFound}
use Rattle.cook_line.specs.Moves.{HasBadMove, SaysLine}
use Rattle.cook_line.specs.Stages.{AreStages}
use Rattle.cook_search.specs.Found.{IsReportFound}
use Rattle.cmd_cook.specs.declared.answer.CookAnswer.{CookAnswer}
use Rattle.cmd_cook.specs.declared.answer.CookAnswer.TheVariants.{Report, Lines}
use Rattle.cmd_cook.specs.declared.answer.ToldLine.{ToldLine}
use Rattle.cmd_cook.specs.declared.fault.CookFault.{CookFault}
use Rattle.cmd_cook.specs.declared.fault.CookFault.TheVariants.{Problem, Line}

-- The words give a line, whose text says these moves from the problem; and what is told at its
-- turns is true of it.
pub record IsLineTold (line : Option (List ℕ)) (problem : Board) (told : ToldLine) : Type 0 where
  pub text : List ℕ
  pub given : line ≡ Some text
  pub says : SaysLine problem text told.moves.items
  pub stages : AreStages problem told.moves.items told.stages.items

-- What is told was found by searches of these settings, which poll these stops.
abbrev pub IsSearchedFor : Board → SettingsView → Signals → CookAnswer → Type 0
IsSearchedFor problem settings stops (Report told) = IsReportFound problem settings stops.before stops.after told.report told.crews.items
IsSearchedFor problem settings stops (Lines told) =
    AreFound problem told.moves.items settings stops.before stops.after told.stages.items told.crews.items

-- A report is told where the words give no line, and what is told along a line where they do, which
-- is true of it.
abbrev pub IsToldFor : Option (List ℕ) → Board → CookAnswer → Type 0
IsToldFor line problem (Report told) = line ≡ None
IsToldFor line problem (Lines told) = IsLineTold line problem told

-- The bytes of an input are a problem, and what is told of it, or along the line from it, was found
-- by searches.
pub record IsCookAnswer (form : ProblemForm) (line : Option (List ℕ)) (settings : SettingsView) (stops : Signals) (input : List ℕ) (answer : CookAnswer) : Type 0 where
  pub problem : Board
  pub stands_for : StandsFor form input (Ok problem)
  pub kept : IsKept problem
  pub is_problem : IsProblem problem
  pub told : IsToldFor line problem answer
  pub found : IsSearchedFor problem settings stops answer

-- The bytes of an input are a problem, and in the line that the words give the part with this
-- number is the first that is no move of a line from it.
pub record HasLineFault (form : ProblemForm) (line : Option (List ℕ)) (input : List ℕ) (number : ℕ) : Type 0 where
  pub problem : Board
  pub stands_for : StandsFor form input (Ok problem)
  pub text : List ℕ
  pub given : line ≡ Some text
  pub bad : HasBadMove problem text number

-- What is wrong with what is asked: the bytes are no problem, with this first fault; or they are
-- one, and the line from it has a fault.
abbrev pub IsCookFault : ProblemForm → Option (List ℕ) → List ℕ → CookFault → Type 0
IsCookFault form line input (Problem fault) = StandsFor form input (Err fault)
IsCookFault form line input (Line number) = HasLineFault form line input number

-- The text of the line that the words give says moves from the problem, where they give one.
abbrev pub IsLineSound : Option (List ℕ) → Board → Type 0
IsLineSound None problem = Unit {0}
IsLineSound (Some text) problem = (moves : List Move) × SaysLine problem text moves
