-- What `solution` promises in plain words.
use Rattle.std.specs.Prelude.{◌≡◌, ◌≤◌, ◌⊎◌, ℕ, List, Option, Some, length}
use Rattle.board_core.specs.declared.moves.Move.{Move}
use Rattle.board_core.specs.Board.{Board}
use Rattle.problem_lines.specs.declared.line.TheConstants.{MOST_PROBLEM_BYTES}
use Rattle.tsume_io.specs.Faults.{Rose}
use Rattle.kif_moves.specs.declared.fault.KifMovesFault.{KifMovesFault}
use Rattle.kif_moves.specs.Reading.{StandsFor}
use Rattle.one_run.specs.declared.ended.Ended.{Ended}
use Rattle.one_run.specs.declared.ended.Ended.TheVariants.{Answered}
use Rattle.one_run.specs.Outside.{Shown}
use Rattle.one_run.specs.Run.{IsAnswered, IsRun, WantsMemory}
use Rattle.one_run.specs.Stops.{Signals, AreUnused}
use Rattle.cmd_solution.specs.declared.verdict.SolutionVerdict.{SolutionVerdict}
use Rattle.cmd_solution.specs.Meaning.{solution_meaning}
use Rattle.cmd_solution.specs.Verdict.{IsJudged}

-- The bytes that the source has left stand for a problem and moves, and are few enough.
pub record HasSolutionLeft (left : Option (List ℕ)) : Type 0 where
  pub input : List ℕ
  pub problem : Board
  pub moves : List Move
  pub told : left ≡ Some input
  pub short : length input ≤ MOST_PROBLEM_BYTES
  pub stands : StandsFor input problem moves

-- A run of `solution` kept all that it promises, for whoever hands it on, whatever stops there are,
-- which it leaves alone.
pub record IsSolutionRun (source sink : Shown) (ended : Ended SolutionVerdict KifMovesFault) : Type 0 where
  pub judged : (input : List ℕ) (verdict : SolutionVerdict) → source.told ≡ Some input → ended ≡ Answered verdict → IsJudged input verdict
  pub run : (stops : Signals) → AreUnused stops → IsRun solution_meaning stops source sink ended
  pub complete : HasSolutionLeft source.told → ¬ Rose source.faults source.faults_after
      → ¬ Rose sink.faults sink.faults_after → IsAnswered ended ⊎ WantsMemory ended
