-- The world of one worker: how a search goes that is alone.
use Rattle.std.specs.Prelude.{◌≡◌, ℕ, Bool, List, [], ◌∷◌, Some, All, map}
use Rattle.board_core.specs.Board.{Board}
use Rattle.notes.specs.declared.note.TheConstants.{HEIGHT_LIMIT}
use Rattle.search_limits.specs.Sizes.{SettingsView}
use Rattle.search_limits.specs.declared.cause.Cause.{Cause}
use Rattle.search_limits.specs.declared.cause.Cause.TheVariants.{Expansions, Room, Height, Stopped as StoppedFirst, Entries}
use Rattle.visit_log.specs.declared.words.WorkEnd.TheVariants.{Spent, NoRoom, TooHigh, Stopped}
use Rattle.visit_log.specs.Visit.{Exchange}
use Rattle.visit_log.specs.Machine.{end_of}
use Rattle.visit_log.specs.Run.{WorkerView, IsReached}
use Rattle.lone_port.specs.Lone.{LonePortView}
use Rattle.lone_port.specs.World.{World, Plays, world_at_first}
use Rattle.lone_port.specs.declared.event.Event.{Event}
use Rattle.lone_port.specs.declared.event.Event.TheVariants.{Step, Raise, Starve}

-- The same settings, with one worker.
abbrev pub for_one : SettingsView → SettingsView
for_one s = record s { workers = 1 }

-- The event is a step of the one worker.
abbrev pub IsOwnStep : Event → Type 0
IsOwnStep (Step number) = number ≡ 1
IsOwnStep (Raise number) = ⊥
IsOwnStep (Starve number) = ⊥

-- The event is a step of the one worker, or a stop is signalled to it.
abbrev pub IsOwn : Event → Type 0
IsOwn (Step number) = number ≡ 1
IsOwn (Raise number) = number ≡ 1
IsOwn (Starve number) = ⊥

-- A world's log in which the one worker asked and was told this.
abbrev pub told_to_one : List Exchange → List (ℕ × Exchange)
told_to_one exchanges = map (λ exchange. (1, exchange)) exchanges

-- The world of one worker.
abbrev pub world_of : LonePortView → WorkerView → Bool → World
world_of its_port worker is_raised = record { port = its_port; workers = worker ∷ []; raised = is_raised ∷ [] }

-- The first world, of one worker, comes by this schedule to where its table and desk and its worker
-- stand so, and the worker asked and was told this.
pub record RunsFrom (first : World) (schedule : List Event) (log : List Exchange) (port : LonePortView) (worker : WorkerView) : Type 0 where
  pub own : All IsOwn schedule
  pub raised : Bool
  pub plays : Plays first schedule (told_to_one log) (world_of port worker raised)
  pub reached : IsReached worker log

-- So does the world of the problem and one worker.
abbrev pub RunsAlone : Board → SettingsView → List Event → List Exchange → LonePortView → WorkerView → Type 0
RunsAlone problem s schedule log port worker = RunsFrom (world_at_first problem (for_one s)) schedule log port worker

-- Why a search with one worker ends without an answer, by how its worker ended: its visits are used
-- up, and it had them all; its room is, and it had it all; a note would have been higher than notes
-- can be; or a stop was signalled. That a certificate is too long is no cause of a search.
abbrev pub HasCause : SettingsView → WorkerView → Cause → Type 0
HasCause s worker (Expansions number) = (number ≡ s.expansions) × (end_of worker.state ≡ Some Spent) × (worker.state.visits ≡ number)
HasCause s worker (Room number) = (number ≡ s.room) × (end_of worker.state ≡ Some NoRoom) × (worker.state.claims ≡ number)
HasCause s worker (Height number) = (number ≡ HEIGHT_LIMIT) × (end_of worker.state ≡ Some TooHigh)
HasCause s worker (StoppedFirst number) = (number ≡ 1) × (end_of worker.state ≡ Some Stopped)
HasCause s worker (Entries number) = ⊥
