-- What a world keeps whatever happens in it: what the table and the desk count is what its workers
-- have, all together.
use Rattle.std.specs.Prelude.{◌≡◌, ◌<◌, ◌+◌, ℕ, zero, suc, false, List, [], ◌∷◌, Option, Some, None, length, slice_get, sum, sum_by, if◌then◌else◌, ◌&&◌, ◌==◌}
use Rattle.std.specs.Ordering.{is_eq}
use Rattle.board_core.specs.declared.keys.Key.{Key}
use Rattle.board_core.specs.KeyOrder.{key_cmp}
use Rattle.notes.specs.declared.words.Kept.{Kept}
use Rattle.notes.specs.declared.words.Kept.TheVariants.{Slot}
use Rattle.table_shard.specs.Row.{HoldsAt}
use Rattle.table_shard.specs.Shard.{row_of}
use Rattle.table_shard.specs.Spot.{word_of}
use Rattle.unit_desk.specs.Desk.{DeskView, HasPosted}
use Rattle.visit_log.specs.declared.words.WorkEnd.{WorkEnd}
use Rattle.visit_log.specs.declared.words.WorkEnd.TheVariants.{Posted, Spent, NoRoom, TooHigh, NoMemory, Stopped}
use Rattle.visit_log.specs.Visit.{Exchange}
use Rattle.visit_log.specs.Frame.{FrameView, task_for}
use Rattle.visit_log.specs.Run.{WorkerView, Leads}
use Rattle.visit_log.specs.Sound.{IsTask}
use Rattle.visit_log.specs.Counts.{Words, own_slots, own_size}
use Rattle.visit_log.specs.Laws.{HasCause}
use Rattle.lone_port.specs.Lone.{held_by}
use Rattle.lone_port.specs.World.{World}

-- 1. WHAT THE WORKERS HAVE, ALL TOGETHER.

-- How many visits of theirs have entered a slot of this word.
abbrev pub all_slots : Words → List WorkerView → ℕ → ℕ
all_slots words workers word = sum_by (λ worker. own_slots words worker.state.frames word) workers

-- The naming of slots by which this slot of this key alone has word 1, and all others word 0.
abbrev pub only : Key → ℕ → Words
only key slot of number = if is_eq (key_cmp key of) && (slot == number) then 1 else 0

-- How many visits of theirs have entered this slot for this key.
abbrev pub all_entered : List WorkerView → Key → ℕ → ℕ
all_entered workers key slot = all_slots (only key slot) workers 1

-- How many visits of theirs have entered some slot.
abbrev pub all_sizes : List WorkerView → ℕ
all_sizes workers = sum_by (λ worker. own_size worker.state.frames) workers

-- 1 where a visit of the first key has entered a slot and the second key is the same, else 0.
abbrev pub key_once : Option Kept → Key → Key → ℕ
key_once (Some (Slot slot)) of key = if is_eq (key_cmp of key) then 1 else 0
key_once kept of key = 0

-- How many of these visits have entered a slot for the key.
abbrev pub own_below : List FrameView → Key → ℕ
own_below [] key = 0
own_below (f ∷ fs) key = key_once f.kept f.place.key key + own_below fs key

-- How many visits of theirs have entered a slot for the key.
abbrev pub all_below : List WorkerView → Key → ℕ
all_below workers key = sum_by (λ worker. own_below worker.state.frames key) workers

-- How many visits they were given.
abbrev pub all_visits : List WorkerView → ℕ
all_visits workers = sum_by (λ worker. worker.state.visits) workers

-- For how many notes they were given room.
abbrev pub all_claims : List WorkerView → ℕ
all_claims workers = sum_by (λ worker. worker.state.claims) workers

-- 2. WHAT A WORLD KEEPS.

-- What a worker's end says of the desk: a note is posted, all visits were drawn, all room was
-- claimed; the other ends say nothing of it.
abbrev pub IsToldOf : DeskView → WorkEnd → Type 0
IsToldOf desk Posted = HasPosted desk
IsToldOf desk Spent = desk.drawn ≡ desk.expansions
IsToldOf desk NoRoom = desk.claimed ≡ desk.room
IsToldOf desk TooHigh = Unit {0}
IsToldOf desk NoMemory = Unit {0}
IsToldOf desk Stopped = Unit {0}

-- The worker at the place searches the desk's problem under the number of its place, no request of
-- its waits, it stands by some log, and what that log was told of the desk still holds.
pub record IsMember (desk : DeskView) (place : ℕ) (worker : WorkerView) : Type 0 where
  pub task : worker.task ≡ task_for desk.position (place + 1)
  pub problem : IsTask worker.task
  pub idle : worker.waiting ≡ false
  pub log : List Exchange
  pub leads : Leads worker.task log worker.state
  pub told : (end : WorkEnd) → HasCause worker.task end log → IsToldOf desk end

-- There is a worker, and of each it is known whether a stop was signalled; the count of each word
-- is that of the visits that have entered a slot of it, over all workers, and so is the number of
-- all; each slot that a visit has entered for a key holds an entry of that key; what is drawn and
-- claimed is what the workers were given; and each is a worker of this search.
pub record IsFair (world : World) : Type 0 where
  pub some : 0 < length world.workers
  pub raised : length world.raised ≡ length world.workers
  pub held : (word : ℕ) → held_by world.port.pins word ≡ all_slots (word_of (length world.port.pins)) world.workers word
  pub entered : (key : Key) (slot : ℕ) → 0 < all_entered world.workers key slot → HoldsAt (row_of world.port.rows key) slot key
  pub size : sum_by sum world.port.pins ≡ all_sizes world.workers
  pub drawn : world.port.desk.drawn ≡ all_visits world.workers
  pub claimed : world.port.desk.claimed ≡ all_claims world.workers
  pub members : (place : ℕ) (worker : WorkerView) → slice_get world.workers place ≡ Some worker → IsMember world.port.desk place worker

-- 3. ITS WORKERS.

-- The worker of a number, from 1; none where there isn't one.
abbrev pub numbered : List WorkerView → ℕ → Option WorkerView
numbered workers zero = None
numbered workers (suc place) = slice_get workers place
