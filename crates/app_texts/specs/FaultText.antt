-- What is wrong with a problem's text, in words.
use Rattle.std.specs.Prelude.{ℕ, List, codes}
use Rattle.sfen_text.specs.FaultText.{fault_text}
use Rattle.kif_text.specs.FaultText.{fault_text as diagram_fault_text}
use Rattle.app_texts.specs.declared.fault.ProblemFault.{ProblemFault}
use Rattle.app_texts.specs.declared.fault.ProblemFault.TheVariants.{Text, Diagram, DefenderInCheck}

-- Why an input is no problem, in words: the fault of its text, with its place where it has one, or
-- that the defender is in check.
abbrev pub problem_fault_text : ProblemFault → List ℕ
problem_fault_text (Text fault) = fault_text fault
problem_fault_text (Diagram fault) = diagram_fault_text fault
problem_fault_text DefenderInCheck = codes "defender in check"
