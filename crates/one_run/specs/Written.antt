-- What writing the text of an answer came to, and what a command means that reads nothing.
use Rattle.std.specs.Prelude.{◌≡◌, ◌⊎◌, ℕ, List, []}
use Rattle.tsume_io.specs.Faults.{Rose}
use Rattle.tsume_io.specs.Sink.{GrewBy, GrewByPrefix}
use Rattle.one_run.specs.declared.ended.Ended.{Ended}
use Rattle.one_run.specs.declared.ended.Ended.TheVariants.{Answered, CutShort, Failed}
use Rattle.one_run.specs.declared.ended.Fault.TheVariants as faults
use Rattle.one_run.specs.declared.written.Written.{Written}
use Rattle.one_run.specs.declared.written.Written.TheVariants.{Whole, InPart, NoMemory}
use Rattle.one_run.specs.Outside.{Shown, NeverFailed, IsUntouched}

-- What writing an answer that has this text came to: its text written whole; or a part of it, where
-- the sink failed and the answer stands; or nothing, for want of memory.
abbrev pub HasWritten : {A : Type 0} → List ℕ → Shown → A → Written A → Type 0
HasWritten text sink answer (Whole told) =
    (told ≡ answer) × GrewBy sink.told sink.told_after text × NeverFailed sink
HasWritten text sink answer (InPart told) =
    (told ≡ answer) × GrewByPrefix sink.told sink.told_after text
    × Rose sink.faults sink.faults_after
HasWritten text sink answer NoMemory = IsUntouched sink

-- How a run ended that read its text whole, and then wrote its answer so; no bytes of the text were
-- kept.
abbrev pub ended_by : {A F : Type 0} → Written A → Ended A F
ended_by (Whole answer) = Answered answer
ended_by (InPart answer) = CutShort answer
ended_by NoMemory = Failed faults.NoMemory []

-- A command that reads nothing, by the kind of its answers: when an answer is true, and its text.
pub record Statement (Answer : Type 0) : Type 1 where
  pub IsTrue : Answer → Type 0
  pub text_of : Answer → List ℕ

-- How a run of it ended. The answer is true, and its text was written whole; or it is true, and a
-- failed sink has kept a part of its text; or memory was wanted, which is free, and nothing was
-- written.
abbrev pub IsStatedEnd : {A : Type 0} → Statement A → Shown → Written A → Type 0
IsStatedEnd command sink (Whole answer) =
    command.IsTrue answer × GrewBy sink.told sink.told_after (command.text_of answer)
    × NeverFailed sink
IsStatedEnd command sink (InPart answer) =
    command.IsTrue answer × GrewByPrefix sink.told sink.told_after (command.text_of answer)
    × Rose sink.faults sink.faults_after
IsStatedEnd command sink NoMemory = IsUntouched sink

-- The text of an answer was written whole.
abbrev pub IsWhole : {A : Type 0} → Written A → Type 0
IsWhole {A} written = (answer : A) × (written ≡ Whole answer)

-- All that a run of a command keeps that reads nothing: it ended so; and it is answered, unless the
-- sink failed or memory was wanted.
pub record IsStatedRun {A : Type 0} (command : Statement A) (sink : Shown) (written : Written A) : Type 0 where
  pub does : IsStatedEnd command sink written
  pub complete : ¬ Rose sink.faults sink.faults_after → IsWhole written ⊎ (written ≡ NoMemory)
