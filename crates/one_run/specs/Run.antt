-- What a run of a command that reads one text did.
use Rattle.std.specs.Prelude.{◌≡◌, ◌≤◌, ◌⊎◌, ℕ, List, [], Option, Some, ⊤, length}
use Rattle.tsume_io.specs.Faults.{Rose}
use Rattle.tsume_io.specs.Source.{TookAll, TookAtMost, TookOneMoreThan, HasMoreThan}
use Rattle.tsume_io.specs.Sink.{GrewBy, GrewByPrefix}
use Rattle.one_run.specs.declared.ended.Ended.{Ended}
use Rattle.one_run.specs.declared.ended.Ended.TheVariants.{Answered, CutShort, Failed}
use Rattle.one_run.specs.declared.ended.Fault.{Fault}
use Rattle.one_run.specs.declared.ended.Fault.TheVariants.{Text, TooLong, Read, NoMemory}
use Rattle.one_run.specs.Command.{Meaning}
use Rattle.one_run.specs.Outside.{Shown, NeverFailed, IsUntouched}
use Rattle.one_run.specs.Stops.{Signals, AreUnused}

-- The bytes of an input were all that the source had left, as far as it tells its bytes, and no
-- more than the limit.
pub record IsReadWhole (limit : ℕ) (source : Shown) (input : List ℕ) : Type 0 where
  pub took : TookAll source.told source.told_after input
  pub short : length input ≤ limit

-- An answer was decided: it is true of the bytes that the source had left.
pub record IsDecided {A F : Type 0} (command : Meaning A F) (stops : Signals) (source : Shown) (answer : A) : Type 0 where
  pub input : List ℕ
  pub read : IsReadWhole command.limit source input
  pub true_of : command.IsTrue stops input answer

-- An answer was decided, and its text written whole.
pub record IsWritten {A F : Type 0} (command : Meaning A F) (stops : Signals) (source sink : Shown) (answer : A) : Type 0 where
  pub decided : IsDecided command stops source answer
  pub grew : GrewBy sink.told sink.told_after (command.text_of answer)

-- An answer was decided, and a failing sink kept a part of its text.
pub record IsCutShort {A F : Type 0} (command : Meaning A F) (stops : Signals) (source sink : Shown) (answer : A) : Type 0 where
  pub decided : IsDecided command stops source answer
  pub grew : GrewByPrefix sink.told sink.told_after (command.text_of answer)
  pub rose : Rose sink.faults sink.faults_after

-- The bytes that a failed run kept of its input are all that the source had left, or none.
abbrev pub IsAllOrNone : Shown → List ℕ → Type 0
IsAllOrNone source input = (input ≡ []) ⊎ TookAll source.told source.told_after input

-- A fault has its cause, and these bytes of the input were kept. The text has it, which was read
-- whole; more bytes than the limit, and one more was taken; a count of faults that rose, and no
-- more than the limit was taken; want of memory, which is free, likewise.
abbrev pub HasCause : {A F : Type 0} → Meaning A F → Shown → Fault F → List ℕ → Type 0
HasCause command source (Text fault) input = IsReadWhole command.limit source input × command.IsFault input fault
HasCause command source TooLong input =
    HasMoreThan command.limit source.told
    × TookOneMoreThan command.limit source.told source.told_after × (input ≡ [])
HasCause command source Read input =
    Rose source.faults source.faults_after
    × TookAtMost command.limit source.told source.told_after × (input ≡ [])
HasCause command source NoMemory input = TookAtMost command.limit source.told source.told_after × IsAllOrNone source input

-- How a run ended. Answered: the answer is true of what the source's bytes were, and its text was
-- written. Cut short: a failed sink has kept a part of the text of an answer that stands. Failed:
-- the fault has its cause, and nothing was written.
abbrev pub IsEnded : {A F : Type 0} → Meaning A F → Signals → Shown → Shown → Ended A F → Type 0
IsEnded command stops source sink (Answered answer) = IsWritten command stops source sink answer
IsEnded command stops source sink (CutShort answer) = IsCutShort command stops source sink answer
IsEnded command stops source sink (Failed fault input) = HasCause command source fault input × IsUntouched sink

-- The stops where a run failed: not used. (Memory may be wanted before a text was accepted, or
-- after it.)
abbrev pub AreUsedBefore : {A F : Type 0} → Meaning A F → Signals → Fault F → Type 0
AreUsedBefore command stops (Text fault) = AreUnused stops
AreUsedBefore command stops TooLong = AreUnused stops
AreUsedBefore command stops Read = AreUnused stops
AreUsedBefore command stops NoMemory = command.Uses stops ⊎ AreUnused stops

-- The stops at the end of a run: used where a text was accepted, as the command uses them, and
-- nowhere else; where memory is wanted, either.
abbrev pub AreUsedTill : {A F : Type 0} → Meaning A F → Signals → Ended A F → Type 0
AreUsedTill command stops (Answered answer) = command.Uses stops
AreUsedTill command stops (CutShort answer) = command.Uses stops
AreUsedTill command stops (Failed fault input) = AreUsedBefore command stops fault

-- What the counts of faults tell of a fault: the sink's is as it was, and the source's too unless
-- reading failed.
abbrev pub IsFaultCounted : {F : Type 0} → Shown → Shown → Fault F → Type 0
IsFaultCounted source sink (Text fault) = NeverFailed source × NeverFailed sink
IsFaultCounted source sink TooLong = NeverFailed source × NeverFailed sink
IsFaultCounted source sink Read = NeverFailed sink
IsFaultCounted source sink NoMemory = NeverFailed source × NeverFailed sink

-- What the counts of faults tell of an ending: unless reading failed the source's is as it was, and
-- unless writing did the sink's.
abbrev pub IsCounted : {A F : Type 0} → Shown → Shown → Ended A F → Type 0
IsCounted source sink (Answered answer) = NeverFailed source × NeverFailed sink
IsCounted source sink (CutShort answer) = NeverFailed source
IsCounted source sink (Failed fault input) = IsFaultCounted source sink fault

-- The bytes that the source has left are what a command is asked about: short enough, and without a
-- fault.
pub record IsWellPosed {A F : Type 0} (command : Meaning A F) (left : Option (List ℕ)) : Type 0 where
  pub input : List ℕ
  pub told : left ≡ Some input
  pub short : length input ≤ command.limit
  pub faultless : (fault : F) → ¬ command.IsFault input fault

-- The run ended with an answer that was written whole.
abbrev pub IsAnswered : {A F : Type 0} → Ended A F → Type 0
IsAnswered {A} ended = (answer : A) × (ended ≡ Answered answer)

-- The run ended for want of memory.
abbrev pub WantsMemory : {A F : Type 0} → Ended A F → Type 0
WantsMemory ended = (input : List ℕ) × (ended ≡ Failed NoMemory input)

-- The run was broken off: the source or the sink failed, more bytes came than are read, or memory
-- was wanted.
abbrev pub IsBrokenOff : {A F : Type 0} → Ended A F → Type 0
IsBrokenOff (Answered answer) = ⊥
IsBrokenOff (CutShort answer) = ⊤
IsBrokenOff (Failed (Text fault) input) = ⊥
IsBrokenOff (Failed TooLong input) = ⊤
IsBrokenOff (Failed Read input) = ⊤
IsBrokenOff (Failed NoMemory input) = ⊤

-- The run ended with a fault.
abbrev pub IsFailed : {A F : Type 0} → Ended A F → Type 0
IsFailed {A} {F} ended = (fault : Fault F) × (input : List ℕ) × (ended ≡ Failed fault input)

-- All that a run of a command keeps: it ended so, with the stops used and the faults counted so;
-- and what it is asked about is answered, unless the outside failed or memory was wanted.
pub record IsRun {A F : Type 0} (command : Meaning A F) (stops : Signals) (source sink : Shown) (ended : Ended A F) : Type 0 where
  pub does : IsEnded command stops source sink ended
  pub used : AreUsedTill command stops ended
  pub counted : IsCounted source sink ended
  pub complete : IsWellPosed command source.told → ¬ Rose source.faults source.faults_after
      → ¬ Rose sink.faults sink.faults_after → IsAnswered ended ⊎ WantsMemory ended
