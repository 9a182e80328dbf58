-- What the private functions of this crate say of one another; no public clause cites these.
use Rattle.std.specs.Prelude.{ℕ}
use Rattle.tsume_io.specs.Faults.{Rose}
use Rattle.tsume_io.specs.Source.{TookAtMost, TookOneMoreThan, HasMoreThan}
use Rattle.tsume_io.specs.declared.source.ReadEnd.{ReadEnd}
use Rattle.tsume_io.specs.declared.source.ReadEnd.TheVariants as ends
use Rattle.one_run.specs.declared.ended.Fault.{Fault}
use Rattle.one_run.specs.declared.ended.Fault.TheVariants.{TooLong, Read, NoMemory}
use Rattle.one_run.specs.Outside.{Shown, NeverFailed}

-- Why a text wasn't read whole: a count of faults that rose, and no more than the limit was taken;
-- more bytes than the limit, and one more was taken; want of memory, and no more than the limit was
-- taken.
abbrev pub IsUnread : ℕ → Shown → ReadEnd → Type 0
IsUnread limit source ends.Fault =
    Rose source.faults source.faults_after × TookAtMost limit source.told source.told_after
IsUnread limit source ends.TooLong =
    HasMoreThan limit source.told × TookOneMoreThan limit source.told source.told_after
    × NeverFailed source
IsUnread limit source ends.NoMemory =
    TookAtMost limit source.told source.told_after × NeverFailed source

-- The fault of a run that couldn't read its text.
abbrev pub read_fault : {F : Type 0} → ReadEnd → Fault F
read_fault ends.Fault = Read
read_fault ends.TooLong = TooLong
read_fault ends.NoMemory = NoMemory
