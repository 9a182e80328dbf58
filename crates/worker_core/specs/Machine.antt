-- The machine of a worker, and the worker.
use Rattle.std.specs.Prelude.{◌≡◌, ℕ, Bool, true, false, Option, Some}
use Rattle.notes.specs.Derivation.{Derivation}
use Rattle.visit_log.specs.Frame.{Task}
use Rattle.visit_log.specs.Machine.{State}
use Rattle.visit_log.specs.declared.parts.Stage.{Stage}
use Rattle.visit_log.specs.declared.parts.Stage.TheVariants.{Polling, Looking, Leaving, Posting, Winding}
use Rattle.visit_log.specs.declared.words.Request.{Request}
use Rattle.visit_log.specs.declared.words.Request.TheVariants.{Poll}
use Rattle.visit_log.specs.declared.parts.Left.TheVariants.{Solved}
use Rattle.visit_log.specs.Run.{WorkerView}
use Rattle.worker_core.specs.Stack.{StackView}

-- Whose search it is, and where it stands.
pub record CoreView : Type 0 where
  pub task : Task
  pub state : State

-- A machine by its parts: its visits, what it does next, and what it was given.
abbrev pub core_of : StackView → Stage → ℕ → ℕ → CoreView
core_of stack stage visits claims =
    record { task = stack.task; state = record { stage = stage; frames = stack.frames; visits = visits; claims = claims } }

-- A worker by its parts: its machine, and whether a request waits.
abbrev pub worker_of : CoreView → Bool → WorkerView
worker_of core waiting = record { task = core.task; state = core.state; waiting = waiting }

-- The note that is handed out when the worker leaves is the one that was made.
abbrev pub IsCopy : Stage → Option Derivation → Type 0
IsCopy (Leaving (Solved note)) copy = copy ≡ Some note
IsCopy stage copy = Unit {0}

-- It posts no note.
abbrev pub IsNotPosting : Stage → Type 0
IsNotPosting (Posting posted) = ⊥
IsNotPosting stage = Unit {0}

-- Whether a request is a poll.
abbrev pub is_poll : Request → Bool
is_poll Poll = true
is_poll request = false

-- Whether a worker at this stage polls next.
abbrev pub polls_at : Stage → Bool
polls_at (Polling entry) = true
polls_at stage = false

-- Whether a worker at this stage looks next.
abbrev pub looks_at : Stage → Bool
looks_at (Looking place) = true
looks_at stage = false

-- Whether a worker at this stage winds up.
abbrev pub winds_at : Stage → Bool
winds_at (Winding end) = true
winds_at stage = false
