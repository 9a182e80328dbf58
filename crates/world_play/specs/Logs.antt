-- How the logs of a world's workers go on.
use Rattle.std.specs.Prelude.{◌≡◌, ◌≤◌, ◌+◌, ◌++◌, ◌==◌, ℕ, Bool, true, false, List, [], ◌∷◌, Some, None, count_by, length, slice_get, if◌then◌else◌}
use Rattle.notes.specs.declared.words.Seen.TheVariants.{Lent}
use Rattle.visit_log.specs.declared.words.Request.TheVariants.{Look}
use Rattle.visit_log.specs.declared.words.Reply.TheVariants.{Look as Looked}
use Rattle.visit_log.specs.Visit.{Exchange}
use Rattle.visit_log.specs.Run.{WorkerView, IsReached}

-- What the worker of this number asked and was told, by a world's log.
abbrev pub told_to : ℕ → List (ℕ × Exchange) → List Exchange
told_to number [] = []
told_to number (told ∷ log) = if told.0 == number then told.1 ∷ told_to number log else told_to number log

-- The worker is in the search that it was in; and whatever log it was reached by before, it is
-- reached now by that log with what follows behind.
pub record GoesOnBy (worker later : WorkerView) (follows : List Exchange) : Type 0 where
  pub task : later.task ≡ worker.task
  pub reached : (log : List Exchange) → IsReached worker log → IsReached later (log ++ follows)

-- There are as many workers as before, and each went on by its own part of a world's log.
pub record GoOnBy (workers : List WorkerView) (log : List (ℕ × Exchange)) (later : List WorkerView) : Type 0 where
  pub as_many : length later ≡ length workers
  pub each : (place : ℕ) (before after : WorkerView) → slice_get workers place ≡ Some before → slice_get later place ≡ Some after
      → GoesOnBy before after (told_to (place + 1) log)

-- Whether a look was refused memory.
abbrev pub is_refused : Exchange → Bool
is_refused (Look key, None) = true
is_refused exchange = false

-- Whether a look lent a note.
abbrev pub is_lent : Exchange → Bool
is_lent (request, Some (Looked (Lent note))) = true
is_lent exchange = false

-- How many looks were refused memory, by a world's log.
abbrev pub refused_looks : List (ℕ × Exchange) → ℕ
refused_looks log = count_by (λ told. is_refused told.1) log

-- How many looks lent a note.
abbrev pub lent_looks : List (ℕ × Exchange) → ℕ
lent_looks log = count_by (λ told. is_lent told.1) log

-- As far as a world's log tells, after so many looks their workers wound up: after each that was
-- refused memory, and after no others but such as lent a note. (Whether there was memory to carry
-- that one, the log doesn't tell.)
pub record AreLost (log : List (ℕ × Exchange)) (lost : ℕ) : Type 0 where
  pub least : refused_looks log ≤ lost
  pub most : lost ≤ refused_looks log + lent_looks log
