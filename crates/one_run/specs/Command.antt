-- What a command means that reads one text.
use Rattle.std.specs.Prelude.{◌⊎◌, ℕ, List, Result, Ok, Err}
use Rattle.one_run.specs.declared.command.Unanswered.{Unanswered}
use Rattle.one_run.specs.declared.command.Unanswered.TheVariants.{Text, NoMemory}
use Rattle.one_run.specs.Stops.{Signals, AreUnused}

-- A command, by the kinds of its answers and of the faults of its texts: the most bytes that a text
-- may have; when an answer is true of a text, by what became of the stops; when a text has a fault;
-- when an answer has a text, and which; and what becomes of the stops where a text is accepted
-- (where none is, they aren't used).
pub record Meaning (Answer Fault : Type 0) : Type 1 where
  pub limit : ℕ
  pub IsTrue : Signals → List ℕ → Answer → Type 0
  pub IsFault : List ℕ → Fault → Type 0
  pub HasText : Answer → Type 0
  pub text_of : Answer → List ℕ
  pub Uses : Signals → Type 0

-- What is answered to a text, or why it isn't, with what became of the stops: an answer that is
-- true of it, where the stops were used; or its fault, where they weren't; or want of memory, which
-- is free, where they may have been.
abbrev pub IsAnswer : {A F : Type 0} → Meaning A F → Signals → List ℕ → Result A (Unanswered F) → Type 0
IsAnswer command stops input (Ok answer) = command.IsTrue stops input answer × command.Uses stops
IsAnswer command stops input (Err (Text fault)) = command.IsFault input fault × AreUnused stops
IsAnswer command stops input (Err NoMemory) = command.Uses stops ⊎ AreUnused stops
