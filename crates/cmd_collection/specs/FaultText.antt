-- What is wrong with a line, in words.
use Rattle.std.specs.Prelude.{ℕ, List, codes}
use Rattle.app_texts.specs.FaultText.{problem_fault_text}
use Rattle.cmd_collection.specs.declared.report.LineFault.{LineFault}
use Rattle.cmd_collection.specs.declared.report.LineFault.TheVariants.{TooLong, Problem}

-- What is wrong with a line of a collection, in words: that it is too long, or the fault of its
-- problem.
abbrev pub line_fault_text : LineFault → List ℕ
line_fault_text TooLong = codes "too long"
line_fault_text (Problem fault) = problem_fault_text fault
