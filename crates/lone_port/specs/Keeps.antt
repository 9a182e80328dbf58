-- What each request keeps of a table and a desk, and what it changes in what they count.
use Rattle.std.specs.Prelude.{◌≡◌, ◌≤◌, ◌+◌, ℕ, List, All, length, sum, sum_by}
use Rattle.board_core.specs.declared.keys.Key.{Key}
use Rattle.visit_log.specs.Frame.{task_for}
use Rattle.visit_log.specs.Visit.{Exchange}
use Rattle.visit_log.specs.Sound.{IsSoundRequest}
use Rattle.visit_log.specs.Counts.{enters, leaves, enters_some, leaves_some}
use Rattle.table_shard.specs.Spot.{word_of}
use Rattle.worker_core.specs.Port.{visits_by, rooms_by}
use Rattle.lone_port.specs.Lone.{LonePortView, IsLone, Turns, held_by}

-- A table and a desk as they are kept, and no row has more than eight entries.
pub record IsKeptPort (port : LonePortView) : Type 0 where
  pub lone : IsLone port
  pub few : All (λ row. length row ≤ 8) port.rows

-- What is asked may be: what it hands in is sound, and the slot that it leaves is entered.
pub record MayAsk (port : LonePortView) (event : Exchange) : Type 0 where
  pub sound : IsSoundRequest (task_for port.desk.position 1) event.0
  pub held : (word : ℕ) → leaves (word_of (length port.pins)) event word ≤ held_by port.pins word

-- What is kept stays kept; and what is held, and what was given, changes by what the event enters,
-- leaves and gives, and by nothing else.
pub record IsCountedBy (event : Exchange) (before after : LonePortView) : Type 0 where
  pub kept : IsKeptPort after
  pub as_many : length after.pins ≡ length before.pins
  pub held : (word : ℕ) → held_by after.pins word + leaves (word_of (length before.pins)) event word
      ≡ held_by before.pins word + enters (word_of (length before.pins)) event word
  pub size : sum_by sum after.pins + leaves_some event ≡ sum_by sum before.pins + enters_some event
  pub visits : after.desk.drawn ≡ before.desk.drawn + visits_by event
  pub rooms : after.desk.claimed ≡ before.desk.claimed + rooms_by event

-- A law: so it is of each request that may be asked, and its answer.
abbrev pub TurnsAreCounted : Type 0
TurnsAreCounted = (before : LonePortView) (path : List Key) (event : Exchange) (after : LonePortView) → IsKeptPort before → MayAsk before event
    → Turns before path event.0 event.1 after → IsCountedBy event before after
