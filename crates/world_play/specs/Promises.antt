-- What follows of a fair world, for whoever reads one.
use Rattle.std.specs.Prelude.{◌≡◌, ◌<◌, ◌⊎◌, ℕ, Bool, List, Some, slice_get, slice_index, sum, sum_by}
use Rattle.board_core.specs.declared.keys.Key.{Key}
use Rattle.table_shard.specs.Row.{HoldsAt}
use Rattle.table_shard.specs.Shard.{row_of}
use Rattle.unit_desk.specs.Desk.{HasPosted}
use Rattle.visit_log.specs.declared.words.WorkEnd.{WorkEnd}
use Rattle.visit_log.specs.declared.words.WorkEnd.TheVariants.{TooHigh, NoMemory, Stopped}
use Rattle.visit_log.specs.Visit.{Exchange}
use Rattle.visit_log.specs.Machine.{end_of}
use Rattle.visit_log.specs.Run.{WorkerView}
use Rattle.visit_log.specs.Sound.{IsSound}
use Rattle.visit_log.specs.Laws.{IsCounted}
use Rattle.lone_port.specs.Lone.{LonePortView, IsLone, held_by, pins_of}
use Rattle.lone_port.specs.Keeps.{IsKeptPort}
use Rattle.lone_port.specs.World.{World, Steps, Happens, Plays}
use Rattle.lone_port.specs.declared.event.Event.{Event}
use Rattle.world_play.specs.Fair.{IsFair, all_entered, IsToldOf}

-- Each slot that a visit has entered for a key holds an entry of that key.
abbrev pub HoldsWhatIsEntered : World → Type 0
HoldsWhatIsEntered world = (key : Key) (slot : ℕ) → 0 < all_entered world.workers key slot → HoldsAt (row_of world.port.rows key) slot key

-- What each worker knows is sound: so each note that it has of a position holds on its path to
-- there, and one that it posts on every path.
abbrev pub AreSoundWorkers : List WorkerView → Type 0
AreSoundWorkers workers = (place : ℕ) (worker : WorkerView) → slice_get workers place ≡ Some worker → IsSound worker.task worker.state × IsCounted worker.state

-- How each worker that has ended did is so of the desk.
abbrev pub AreToldOf : World → Type 0
AreToldOf world = (place : ℕ) (worker : WorkerView) (end : WorkEnd) → slice_get world.workers place ≡ Some worker → end_of worker.state ≡ Some end → IsToldOf world.port.desk end

-- The worker has ended.
pub record HasEnded (worker : WorkerView) : Type 0 where
  pub end : WorkEnd
  pub ended : end_of worker.state ≡ Some end

-- All workers have ended.
abbrev pub AllHaveEnded : List WorkerView → Type 0
AllHaveEnded workers = (place : ℕ) (worker : WorkerView) → slice_get workers place ≡ Some worker → HasEnded worker

-- A worker ended so.
pub record OneEnded (workers : List WorkerView) (end : WorkEnd) : Type 0 where
  pub place : ℕ
  pub worker : WorkerView
  pub there : slice_get workers place ≡ Some worker
  pub ended : end_of worker.state ≡ Some end

-- Why nothing more happens: a note is posted, all visits were drawn, all room was claimed, or a
-- worker ended since a note would have been too high, for want of memory, or since it was told to
-- stop.
abbrev pub IsOver : World → Type 0
IsOver world =
    HasPosted world.port.desk ⊎ ((world.port.desk.drawn ≡ world.port.desk.expansions) ⊎ ((world.port.desk.claimed ≡ world.port.desk.room)
    ⊎ (OneEnded world.workers TooHigh ⊎ (OneEnded world.workers NoMemory ⊎ OneEnded world.workers Stopped))))

-- No slot is entered any more.
pub record IsLeft (world : World) : Type 0 where
  pub slots : (word : ℕ) → held_by world.port.pins word ≡ 0
  pub size : sum_by sum world.port.pins ≡ 0

-- A law: no step gives up an entry that a visit has entered. Where a slot holds the key's entry
-- before the step, and a visit is below it, the slot holds the key's entry behind it.
abbrev pub StepsKeepEntered : Type 0
StepsKeepEntered = (stops : Bool) (port : LonePortView) (worker : WorkerView) (exchange : Exchange) (after : LonePortView) (later : WorkerView) → IsLone port
    → Steps stops port worker exchange after later
    → (key : Key) (slot : ℕ) → HoldsAt (row_of port.rows key) slot key → 0 < slice_index (pins_of port.pins key) slot → HoldsAt (row_of after.rows key) slot key

-- A world as a `World` keeps it: what its table and its desk count is what its workers have, all
-- together; and these are as they are kept.
pub record IsKeptWorld (world : World) : Type 0 where
  pub fair : IsFair world
  pub port : IsKeptPort world.port

-- A law: a world stays so whatever happens in it.
abbrev pub EventsKeepWorlds : Type 0
EventsKeepWorlds = (world : World) (event : Event) (log : List (ℕ × Exchange)) (after : World) → IsKeptWorld world → Happens world event log after
    → IsKeptWorld after

-- A law: in the midst of a schedule no event gives up an entry that a visit has entered. Where the
-- schedule has led to a world between, in which a visit is below a slot of the key, the slot holds
-- the key's entry behind the next event.
abbrev pub PlaysKeepEntered : Type 0
PlaysKeepEntered = (world : World) (events : List Event) (log : List (ℕ × Exchange)) (between : World) (event : Event) (more : List (ℕ × Exchange)) (after : World)
    → IsKeptWorld world → Plays world events log between → Happens between event more after
    → (key : Key) (slot : ℕ) → 0 < all_entered between.workers key slot → HoldsAt (row_of after.port.rows key) slot key
