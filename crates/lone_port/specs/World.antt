-- A world: a table and a desk that several workers share, and what happens in it, one thing after
-- the other, by any schedule.
use Rattle.std.specs.Prelude.{◌≡◌, ◌+◌, ◌++◌, ◌⊎◌, ℕ, zero, suc, Bool, true, false, List, [], ◌∷◌, Some, None, replicate, slice_get, slice_set, slice_index_or, if◌then◌else◌}
use Rattle.board_core.specs.Board.{Board}
use Rattle.search_limits.specs.Sizes.{SettingsView}
use Rattle.visit_log.specs.Visit.{Exchange}
use Rattle.visit_log.specs.Machine.{path_of, starve, end_of}
use Rattle.visit_log.specs.Run.{WorkerView}
use Rattle.worker_core.specs.Port.{Goes}
use Rattle.worker_core.specs.Machine.{is_poll}
use Rattle.lone_port.specs.Lone.{LonePortView, Turns, opened, alone_at_first, worker_at_first}
use Rattle.lone_port.specs.declared.event.Event.{Event}
use Rattle.lone_port.specs.declared.event.Event.TheVariants.{Step, Raise, Starve}

-- 1. A STEP.

-- A worker makes a request, and the table and the desk answer it, which say that it is to stop
-- where that was signalled. (None is the answer to a look that is refused memory.)
pub record Steps (stops : Bool) (port : LonePortView) (worker : WorkerView) (exchange : Exchange) (after : LonePortView) (later : WorkerView) : Type 0 where
  pub turns : Turns (opened port stops) (path_of worker.task worker.state.frames) exchange.0 exchange.1 after
  pub goes : Goes worker.task worker.state exchange later.state
  pub task : later.task ≡ worker.task
  pub idle : later.waiting ≡ false

-- 2. A WORLD.

-- The table and the desk; the workers, the first first; and of each whether a stop was signalled to
-- it since it polled last.
pub record World : Type 0 where
  pub port : LonePortView
  pub workers : List WorkerView
  pub raised : List Bool

-- So many workers in the search of a problem, numbered from the first number, before they ask
-- anything.
abbrev pub workers_from : Board → ℕ → ℕ → List WorkerView
workers_from problem first zero = []
workers_from problem first (suc more) = worker_at_first problem first ∷ workers_from problem (first + 1) more

-- The world of a problem and settings before anything happens.
abbrev pub world_at_first : Board → SettingsView → World
world_at_first problem s = record {
  port = alone_at_first problem s.expansions s.room s.rows s.lends;
  workers = workers_from problem 1 s.workers;
  raised = replicate s.workers false;
}

-- The worker of this number, from 1, stands at this place, from 0, and hasn't ended.
pub record IsAtWork (world : World) (number place : ℕ) (worker : WorkerView) : Type 0 where
  pub numbered : number ≡ place + 1
  pub there : slice_get world.workers place ≡ Some worker
  pub goes_on : end_of worker.state ≡ None

-- The worker of this number isn't there, or has ended.
abbrev pub IsIdle : World → ℕ → Type 0
IsIdle world number = (place : ℕ) (worker : WorkerView) → IsAtWork world number place worker → ⊥

-- The worker at the place makes its request, and is answered. A poll takes in that a stop was
-- signalled.
pub record StepsAt (world : World) (place : ℕ) (worker : WorkerView) (exchange : Exchange) (after : World) : Type 0 where
  pub later : WorkerView
  pub steps : Steps (slice_index_or world.raised place false) world.port worker exchange after.port later
  pub workers : after.workers ≡ slice_set world.workers place later
  pub raised : after.raised ≡ (if is_poll exchange.0 then slice_set world.raised place false else world.raised)

-- A stop is signalled to the worker at the place; nothing else changes.
abbrev pub RaisesAt : World → ℕ → World → Type 0
RaisesAt world place after = after ≡ record world { raised = slice_set world.raised place true }

-- The worker at the place is starved; nothing else changes.
abbrev pub StarvesAt : World → ℕ → WorkerView → World → Type 0
StarvesAt world place worker after =
    after ≡ record world { workers = slice_set world.workers place (record { task = worker.task; state = starve worker.state; waiting = false }) }

-- 3. A SCHEDULE.

-- What an event does, and which request it has answered, if one, with the number of its worker. One
-- of a worker that isn't there, or has ended, changes nothing.
abbrev pub Happens : World → Event → List (ℕ × Exchange) → World → Type 0
Happens world (Step number) log after =
    ((place : ℕ) × (worker : WorkerView) × (exchange : Exchange) × IsAtWork world number place worker × StepsAt world place worker exchange after
    × (log ≡ (number, exchange) ∷ []))
    ⊎ (IsIdle world number × (log ≡ []) × (after ≡ world))
Happens world (Raise number) log after =
    ((place : ℕ) × (worker : WorkerView) × IsAtWork world number place worker × RaisesAt world place after × (log ≡ []))
    ⊎ (IsIdle world number × (log ≡ []) × (after ≡ world))
Happens world (Starve number) log after =
    ((place : ℕ) × (worker : WorkerView) × IsAtWork world number place worker × StarvesAt world place worker after × (log ≡ []))
    ⊎ (IsIdle world number × (log ≡ []) × (after ≡ world))

-- The events of a schedule happen, one after the other; the log has what was asked and answered, in
-- order.
abbrev pub Plays : World → List Event → List (ℕ × Exchange) → World → Type 0
Plays world [] log after = (log ≡ []) × (world ≡ after)
Plays world (event ∷ events) log after =
    (first : List (ℕ × Exchange)) × (rest : List (ℕ × Exchange)) × (between : World) × Happens world event first between × Plays between events rest after
    × (log ≡ first ++ rest)
