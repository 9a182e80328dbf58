-- What is wrong with what is asked, in words.
use Rattle.std.specs.Prelude.{◌≡◌, ◌++◌, ℕ, List, [], codes}
use Rattle.std.specs.Fmt.{decimal}
use Rattle.app_texts.specs.FaultText.{problem_fault_text}
use Rattle.run_telling.specs.Telling.{MayFollowProblem}
use Rattle.cmd_cook.specs.declared.fault.CookFault.{CookFault}
use Rattle.cmd_cook.specs.declared.fault.CookFault.TheVariants.{Problem, Line}

-- Why a problem isn't reported on, in words: the problem's fault, or the number of the move.
abbrev pub cook_fault_text : CookFault → List ℕ
cook_fault_text (Problem fault) = problem_fault_text fault
cook_fault_text (Line number) = codes "bad move " ++ decimal number ++ codes " in line"

-- What stands for a reader behind it: what may behind the problem's fault, and nothing behind the
-- number of a move.
abbrev pub MayFollowCook : CookFault → List ℕ → Type 0
MayFollowCook (Problem fault) explanation = MayFollowProblem fault explanation
MayFollowCook (Line number) explanation = explanation ≡ []
