-- What `solution` means.
use Rattle.std.specs.Prelude.{⊤}
use Rattle.problem_lines.specs.declared.line.TheConstants.{MOST_PROBLEM_BYTES}
use Rattle.kif_moves.specs.declared.fault.KifMovesFault.{KifMovesFault}
use Rattle.one_run.specs.Command.{Meaning}
use Rattle.one_run.specs.Stops.{AreUnused}
use Rattle.cmd_solution.specs.declared.verdict.SolutionVerdict.{SolutionVerdict}
use Rattle.cmd_solution.specs.Verdict.{IsJudged, IsNoSolution}
use Rattle.cmd_solution.specs.Text.{verdict_text}

-- What `solution` means: a text has so many bytes at most; an answer is a verdict on the moves that
-- the text stands for, and a fault the text's; the text of an answer is the verdict's line; and no
-- stop is used.
abbrev pub solution_meaning : Meaning SolutionVerdict KifMovesFault
solution_meaning = record {
  limit = MOST_PROBLEM_BYTES;
  IsTrue = λ stops input verdict. IsJudged input verdict;
  IsFault = IsNoSolution;
  HasText = λ verdict. ⊤;
  text_of = verdict_text;
  Uses = AreUnused;
}
