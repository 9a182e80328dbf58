-- What `record` promises in plain words.
use Rattle.std.specs.Prelude.{◌≡◌, ◌≤◌, ◌⊎◌, ℕ, List, Option, Some, length}
use Rattle.board_core.specs.declared.moves.Move.{Move}
use Rattle.board_core.specs.Board.{Board}
use Rattle.shogi_rules.specs.declared.problem.Problem.{Problem as GivenProblem}
use Rattle.cert_text.specs.declared.certificate.Certificate.TheVariants.{Mate}
use Rattle.cert_text.specs.Certificate.{Mating}
use Rattle.cert_text.specs.Reading.{IsReadable, IsTextOf}
use Rattle.cert_check.specs.Valid.{ValidMate}
use Rattle.tsume_io.specs.Faults.{Rose}
use Rattle.one_run.specs.declared.ended.Ended.{Ended}
use Rattle.one_run.specs.declared.ended.Ended.TheVariants.{Answered}
use Rattle.one_run.specs.Outside.{Shown}
use Rattle.one_run.specs.Run.{IsAnswered, IsBrokenOff, IsRun, WantsMemory}
use Rattle.one_run.specs.Stops.{Signals, AreUnused}
use Rattle.cmd_check.specs.declared.asked.TheConstants.{MOST_CERTIFICATE_BYTES}
use Rattle.cmd_record.specs.declared.answer.RecordAnswer.{RecordAnswer}
use Rattle.cmd_record.specs.declared.answer.RecordAnswer.TheVariants.{Recorded}
use Rattle.cmd_record.specs.declared.fault.RecordFault.{RecordFault}
use Rattle.cmd_record.specs.Answer.{HasMainLine}
use Rattle.cmd_record.specs.Meaning.{record_meaning}

-- The bytes are the text of a mate's certificate that is valid for its own problem.
pub record IsMateText (input : List ℕ) : Type 0 where
  pub certificate : Mating
  pub readable : IsReadable (Mate certificate)
  pub text : IsTextOf (Mate certificate) input
  pub valid : ValidMate certificate certificate.problem

-- The bytes are the text of a mate's certificate that is valid for this problem, its own, with this
-- main line.
pub record IsTextWith (input : List ℕ) (problem : Board) (moves : List Move) : Type 0 where
  pub certificate : Mating
  pub readable : IsReadable (Mate certificate)
  pub text : IsTextOf (Mate certificate) input
  pub line : HasMainLine certificate problem moves

-- The run ended with a record.
abbrev pub EndsWithRecord : Ended RecordAnswer RecordFault → Type 0
EndsWithRecord ended = (problem : GivenProblem) × (moves : List Move) × (ended ≡ Answered (Recorded problem moves))

-- The bytes that the source has left are the text of a mate's certificate, and short enough.
pub record HasMateLeft (left : Option (List ℕ)) : Type 0 where
  pub input : List ℕ
  pub certificate : Mating
  pub told : left ≡ Some input
  pub short : length input ≤ MOST_CERTIFICATE_BYTES
  pub readable : IsReadable (Mate certificate)
  pub text : IsTextOf (Mate certificate) input

-- A run of `record` kept all that it promises, for whoever hands it on, whatever stops there are,
-- which it leaves alone.
pub record IsRecordRun (source sink : Shown) (ended : Ended RecordAnswer RecordFault) : Type 0 where
  pub recorded : (input : List ℕ) (problem : GivenProblem) (moves : List Move) → source.told ≡ Some input
      → ended ≡ Answered (Recorded problem moves) → IsTextWith input problem.position moves
  pub mates : (input : List ℕ) → source.told ≡ Some input → ¬ IsBrokenOff ended → IsMateText input → EndsWithRecord ended
  pub run : (stops : Signals) → AreUnused stops → IsRun record_meaning stops source sink ended
  pub complete : HasMateLeft source.told → ¬ Rose source.faults source.faults_after
      → ¬ Rose sink.faults sink.faults_after → IsAnswered ended ⊎ WantsMemory ended
