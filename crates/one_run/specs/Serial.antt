-- What a command means that tells its answer part by part, while it works.
use Rattle.std.specs.Prelude.{◌≡◌, ◌⊎◌, ◌++◌, ℕ, List, [], ◌∷◌, ⊤}
use Rattle.tsume_io.specs.Faults.{Rose}
use Rattle.tsume_io.specs.Sink.{GrewBy, GrewByPrefix}
use Rattle.one_run.specs.declared.ended.Ended.{Ended}
use Rattle.one_run.specs.declared.ended.Ended.TheVariants.{Answered, CutShort, Failed}
use Rattle.one_run.specs.declared.ended.Fault.{Fault}
use Rattle.one_run.specs.declared.ended.Fault.TheVariants.{Text, TooLong, Read, NoMemory}
use Rattle.one_run.specs.Command.{Meaning}
use Rattle.one_run.specs.Outside.{Shown, NeverFailed, IsUntouched}
use Rattle.one_run.specs.Run.{HasCause, IsAnswered, IsCounted, IsReadWhole, IsWellPosed, WantsMemory}
use Rattle.one_run.specs.Stops.{AreUnused}

-- A command that reads one text and tells a part of its answer on each subject of the text, in
-- their order, and what sums them up behind the last; by the kinds of its subjects, parts, answers
-- and faults: the most bytes that a text may have, and when it has a fault; the subjects of a text;
-- when a part is true of a subject, and its text; when an answer sums parts up, and its text.
pub record Serial (Subject Part Answer Fault : Type 0) : Type 1 where
  pub limit : ℕ
  pub IsFault : List ℕ → Fault → Type 0
  pub subjects_of : List ℕ → List Subject
  pub IsTrue : Subject → Part → Type 0
  pub part_text : Subject → Part → List ℕ
  pub IsSum : List Part → Answer → Type 0
  pub text_of : Answer → List ℕ

-- Each part is true of its subject, one by one.
abbrev pub AreTrue : {S P A F : Type 0} → Serial S P A F → List S → List P → Type 0
AreTrue command [] [] = Unit {0}
AreTrue command [] (part ∷ parts) = ⊥
AreTrue command (subject ∷ subjects) [] = ⊥
AreTrue command (subject ∷ subjects) (part ∷ parts) = command.IsTrue subject part × AreTrue command subjects parts

-- The texts of the parts one behind the other, each on its subject.
abbrev pub parts_text : {S P A F : Type 0} → Serial S P A F → List S → List P → List ℕ
parts_text command [] parts = []
parts_text command (subject ∷ subjects) [] = []
parts_text command (subject ∷ subjects) (part ∷ parts) = command.part_text subject part ++ parts_text command subjects parts

-- This is the text of true parts on the subjects, and the answer sums them up.
pub record AreTold {S P A F : Type 0} (command : Serial S P A F) (subjects : List S) (text : List ℕ) (answer : A) : Type 0 where
  pub parts : List P
  pub true_of : AreTrue command subjects parts
  pub is_text : text ≡ parts_text command subjects parts
  pub sums : command.IsSum parts answer

-- The same command, of which only the end is told: an answer sums up true parts on all subjects of
-- the text; it uses no stop.
abbrev pub meaning_of : {S P A F : Type 0} → Serial S P A F → Meaning A F
meaning_of command = record {
  limit = command.limit;
  IsTrue = λ stops input answer. (text : List ℕ) × AreTold command (command.subjects_of input) text answer;
  IsFault = command.IsFault;
  HasText = λ answer. ⊤;
  text_of = command.text_of;
  Uses = AreUnused;
}

-- A part is told of a subject by this text, and what summed up the parts so far sums it up too.
pub record IsPartTold {S P A F : Type 0} (command : Serial S P A F) (subject : S) (before after : A) (text : List ℕ) : Type 0 where
  pub part : P
  pub true_of : command.IsTrue subject part
  pub is_text : text ≡ command.part_text subject part
  pub summed : (parts : List P) → command.IsSum parts before → command.IsSum (parts ++ part ∷ []) after

-- How far a run has come, of all whose subjects these others are left: on those before them the
-- parts were told, which the answer sums up, and nothing else was written.
pub record AreSoFar {S P A F : Type 0} (command : Serial S P A F) (all others : List S) (sink : Shown) (answer : A) : Type 0 where
  pub done : List S
  pub parted : all ≡ done ++ others
  pub text : List ℕ
  pub told : AreTold command done text answer
  pub grew : GrewBy sink.told sink.told_after text
  pub kept : NeverFailed sink

-- The parts on all subjects of the text were written in their order, and the answer's text behind
-- them.
pub record AreAllTold {S P A F : Type 0} (command : Serial S P A F) (source sink : Shown) (answer : A) : Type 0 where
  pub input : List ℕ
  pub read : IsReadWhole command.limit source input
  pub text : List ℕ
  pub told : AreTold command (command.subjects_of input) text answer
  pub grew : GrewBy sink.told sink.told_after (text ++ command.text_of answer)

-- This is the text of the parts on some first subjects of the text.
pub record AreFirstTold {S P A F : Type 0} (command : Serial S P A F) (source : Shown) (text : List ℕ) (answer : A) : Type 0 where
  pub input : List ℕ
  pub read : IsReadWhole command.limit source input
  pub done : List S
  pub others : List S
  pub parted : command.subjects_of input ≡ done ++ others
  pub told : AreTold command done text answer

-- A failed sink has kept a part of the text: of the parts on the subjects that were done; or all of
-- these, which are on all subjects, and a part of the answer's text.
pub record AreToldInPart {S P A F : Type 0} (command : Serial S P A F) (source sink : Shown) (answer : A) : Type 0 where
  pub text : List ℕ
  pub first : AreFirstTold command source text answer
  pub grew : GrewByPrefix sink.told sink.told_after text
      ⊎ ((first.others ≡ []) × GrewByPrefix sink.told sink.told_after (text ++ command.text_of answer))
  pub rose : Rose sink.faults sink.faults_after

-- Memory was wanted behind whole parts.
pub record AreToldBefore {S P A F : Type 0} (command : Serial S P A F) (source sink : Shown) : Type 0 where
  pub text : List ℕ
  pub answer : A
  pub first : AreFirstTold command source text answer
  pub grew : GrewBy sink.told sink.told_after text
  pub kept : NeverFailed sink

-- What was written where a run failed: nothing, and for want of memory perhaps whole parts.
abbrev pub IsWrittenBefore : {S P A F : Type 0} → Serial S P A F → Shown → Shown → Fault F → Type 0
IsWrittenBefore command source sink (Text fault) = IsUntouched sink
IsWrittenBefore command source sink TooLong = IsUntouched sink
IsWrittenBefore command source sink Read = IsUntouched sink
IsWrittenBefore command source sink NoMemory = IsUntouched sink ⊎ AreToldBefore command source sink

-- How a run ended. Answered: all parts and the answer's text were written. Cut short: a failed sink
-- has kept a part of them. Failed: the fault has its cause; and nothing was written, or for want of
-- memory nothing but whole parts.
abbrev pub IsSerialEnd : {S P A F : Type 0} → Serial S P A F → Shown → Shown → Ended A F → Type 0
IsSerialEnd command source sink (Answered answer) = AreAllTold command source sink answer
IsSerialEnd command source sink (CutShort answer) = AreToldInPart command source sink answer
IsSerialEnd command source sink (Failed fault input) =
    HasCause (meaning_of command) source fault input × IsWrittenBefore command source sink fault

-- All that a run of such a command keeps: it ended so, with the faults counted so; and what it is
-- asked about is answered, unless the outside failed or memory was wanted.
pub record IsSerialRun {S P A F : Type 0} (command : Serial S P A F) (source sink : Shown) (ended : Ended A F) : Type 0 where
  pub does : IsSerialEnd command source sink ended
  pub counted : IsCounted source sink ended
  pub complete : IsWellPosed (meaning_of command) source.told → ¬ Rose source.faults source.faults_after
      → ¬ Rose sink.faults sink.faults_after → IsAnswered ended ⊎ WantsMemory ended
