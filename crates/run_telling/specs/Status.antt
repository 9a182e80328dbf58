-- The exit status of a run.
use Rattle.std.specs.Prelude.{ℕ}
use Rattle.app_texts.specs.declared.answer.Solution.{Solution}
use Rattle.app_texts.specs.declared.answer.Solution.TheVariants.{Mate, NoMate, Unknown}
use Rattle.app_texts.specs.declared.answer.Judgement.{Judgement}
use Rattle.app_texts.specs.declared.answer.Judgement.TheVariants.{Accepted, Refused}
use Rattle.one_run.specs.declared.ended.Ended.{Ended}
use Rattle.one_run.specs.declared.ended.Ended.TheVariants.{Answered, CutShort, Failed}
use Rattle.one_run.specs.declared.ended.Fault.{Fault}
use Rattle.one_run.specs.declared.ended.Fault.TheVariants as faults
use Rattle.one_run.specs.declared.written.Written.{Written}
use Rattle.one_run.specs.declared.written.Written.TheVariants as written

-- The status for a problem: 0 with a verdict, 1 where the search gave up.
abbrev pub solution_status : Solution → ℕ
solution_status (Mate certificate moves) = 0
solution_status (NoMate certificate) = 0
solution_status (Unknown cause crew) = 1

-- The status for a certificate: 0 where it is accepted, 7 where it is refused.
abbrev pub judgement_status : Judgement → ℕ
judgement_status (Accepted claim entries) = 0
judgement_status (Refused entry why) = 7

-- The status of a fault: 3 where the text is at fault, or too long; 4 where the source failed; 6
-- for want of memory.
abbrev pub fault_status : {F : Type 0} → Fault F → ℕ
fault_status (faults.Text fault) = 3
fault_status faults.TooLong = 3
fault_status faults.Read = 4
fault_status faults.NoMemory = 6

-- The status of a run, by that of its answer: that, 5 where the sink failed, or that of its fault.
abbrev pub ended_status : {A F : Type 0} → (A → ℕ) → Ended A F → ℕ
ended_status status (Answered answer) = status answer
ended_status status (CutShort answer) = 5
ended_status status (Failed fault input) = fault_status fault

-- The status of a run that reads nothing, by that of its answer: that, 5 where the sink failed, or
-- 6 for want of memory.
abbrev pub written_status : {A : Type 0} → (A → ℕ) → Written A → ℕ
written_status status (written.Whole answer) = status answer
written_status status (written.InPart answer) = 5
written_status status written.NoMemory = 6
