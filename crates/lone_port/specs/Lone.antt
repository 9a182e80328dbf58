-- A table, the counts of workers below its slots, and a desk: how a worker alone sees them, and
-- what each request does with them.
use Rattle.std.specs.Prelude.{◌≡◌, ◌<◌, ◌+◌, ◌-◌, ◌/◌, ◌%◌, ◌⊎◌, ℕ, Bool, true, false, List, [], Option, Some, None, All, length, replicate, slice_set, slice_index, slice_index_or, sum, sum_by, if◌then◌else◌}
use Rattle.bit_boards.specs.declared.piece.Side.{Side}
use Rattle.board_core.specs.Board.{Board}
use Rattle.board_core.specs.declared.keys.Key.{Key}
use Rattle.notes.specs.declared.words.Kept.{Kept}
use Rattle.notes.specs.declared.words.Kept.TheVariants.{Slot, Unkept}
use Rattle.notes.specs.declared.words.Update.{Update}
use Rattle.table_shard.specs.Entry.{EntryView, AreFor}
use Rattle.table_shard.specs.Row.{HoldsAt, Lacks, Looks, lent_to}
use Rattle.table_shard.specs.Shard.{row_of, EntersIn, IsLeftAt}
use Rattle.table_shard.specs.Spot.{place_of, word_of}
use Rattle.unit_desk.specs.Desk.{DeskView, Draws, Claims, first_posted, fresh}
use Rattle.visit_log.specs.declared.words.Request.{Request}
use Rattle.visit_log.specs.declared.words.Request.TheVariants.{Poll, Draw, Claim, Look, Enter, Leave, Post}
use Rattle.visit_log.specs.declared.words.Reply.{Reply}
use Rattle.visit_log.specs.declared.words.Reply.TheVariants.{Poll as Polled, Draw as Drew, Claim as Claimed, Look as Looked, Enter as Entered, Leave as LeftIt, Post as PostedIt}
use Rattle.visit_log.specs.Frame.{task_for}
use Rattle.visit_log.specs.Machine.{start}
use Rattle.visit_log.specs.Run.{WorkerView}
use Rattle.worker_core.specs.Port.{Book, ends_by}

-- 1. WHAT IT IS.

-- The rows of the table, how many visits are below each slot of each row, the desk, whether it goes
-- on (it said neither that all is done or spent nor that there is no room), whether it says that
-- the worker is to stop, and whether the table lends what it knows of other hands.
pub record LonePortView : Type 0 where
  pub rows : List (List EntryView)
  pub pins : List (List ℕ)
  pub desk : DeskView
  pub going : Bool
  pub stops : Bool
  pub lends : Bool

-- With so many rows, the desk of a problem and its limits, before anything is asked; its table
-- lends or not.
abbrev pub alone_at_first : Board → ℕ → ℕ → ℕ → Bool → LonePortView
alone_at_first problem expansions room its_rows it_lends = record {
  rows = replicate its_rows [];
  pins = replicate its_rows (replicate 8 0);
  desk = fresh problem expansions room;
  going = true;
  stops = false;
  lends = it_lends;
}

-- Opened for a worker's turn: it goes on, and says so whether the worker is to stop.
abbrev pub opened : LonePortView → Bool → LonePortView
opened port its_stops = record port { going = true; stops = its_stops }

-- How many visits are below the slots of the key's row.
abbrev pub pins_of : List (List ℕ) → Key → List ℕ
pins_of pins key = slice_index_or pins (place_of key (length pins)) []

-- The counts with others in place of those of the key's row.
abbrev pub with_pins : List (List ℕ) → Key → List ℕ → List (List ℕ)
with_pins pins key changed = slice_set pins (place_of key (length pins)) changed

-- One visit more below the slot of the key's row, and one less.
abbrev pub pinned : List (List ℕ) → Key → Kept → List (List ℕ)
pinned pins key Unkept = pins
pinned pins key (Slot slot) = with_pins pins key (slice_set (pins_of pins key) slot (slice_index (pins_of pins key) slot + 1))

-- The counts once what was entered so is left.
abbrev pub unpinned : List (List ℕ) → Key → Kept → List (List ℕ)
unpinned pins key Unkept = pins
unpinned pins key (Slot slot) = with_pins pins key (slice_set (pins_of pins key) slot (slice_index (pins_of pins key) slot - 1))

-- How often the slot of a word is entered and not left: the eight words of a row are the counts of
-- its slots.
abbrev pub held_by : List (List ℕ) → ℕ → ℕ
held_by pins word = slice_index (slice_index_or pins (word / 8) []) (word % 8)

-- How many visits are below the slot of the key's entry; none where its row has none.
abbrev pub IsBelow : List (List EntryView) → List (List ℕ) → Key → ℕ → Type 0
IsBelow rows pins key count =
    ((slot : ℕ) × HoldsAt (row_of rows key) slot key × (count ≡ slice_index (pins_of pins key) slot))
    ⊎ (Lacks (row_of rows key) key × (count ≡ 0))

-- To whom its table lends: to the problem's attacker, where it lends at all.
abbrev pub to_whom : LonePortView → Option Side
to_whom port = lent_to port.lends port.desk.position.side

-- What it tells of itself.
abbrev pub book_of : LonePortView → Book
book_of port = record { problem = port.desk.position; visits = port.desk.drawn; going = port.going; words = word_of (length port.pins); held = held_by port.pins; size = sum_by sum port.pins; rooms = port.desk.claimed }

-- The worker of this number in the search of the problem, before it asks anything.
abbrev pub worker_at_first : Board → ℕ → WorkerView
worker_at_first problem number = record { task = task_for problem number; state = start (task_for problem number); waiting = false }

-- 2. WHAT IT KEEPS.

-- It has a row; there are eight counts for each row; a slot with visits below it has an entry; and
-- all notes are for the problem's attacker.
pub record IsLone (port : LonePortView) : Type 0 where
  pub some : 0 < length port.rows
  pub as_many : length port.pins ≡ length port.rows
  pub eight : All (λ counts. length counts ≡ 8) port.pins
  pub there : (place slot : ℕ) → 0 < slice_index (slice_index_or port.pins place []) slot → slot < length (slice_index_or port.rows place [])
  pub notes : All (All (AreFor port.desk.position.side)) port.rows

-- 3. WHAT EACH REQUEST DOES.

-- Whether it goes on after an answer.
abbrev pub goes_on : Reply → Bool → Bool
goes_on answer going = if ends_by (Some answer) then false else going

-- The rows after what was entered so is left with an update: the slot's entry is updated where it
-- is the key's; else nothing changes.
abbrev pub IsLeftIn : List (List EntryView) → Kept → Key → Update → List (List EntryView) → Type 0
IsLeftIn rows Unkept key update after = after ≡ rows
IsLeftIn rows (Slot slot) key update after = IsLeftAt rows slot key update after

-- From one state to the next, by a request of a worker on this path and its answer. It says whether
-- the worker is to stop. The desk draws, claims and keeps what is posted; the table shows what its
-- rows do on the path, or there is no memory for it; the key's row enters the key, and leaves it;
-- and what is entered in a slot is counted until it is left.
abbrev pub Turns : LonePortView → List Key → Request → Option Reply → LonePortView → Type 0
Turns before path Poll (Some (Polled stop)) after = (stop ≡ before.stops) × (after ≡ before)
Turns before path Draw (Some (Drew draw)) after =
    Draws before.desk draw after.desk × (after ≡ record before { desk = after.desk; going = goes_on (Drew draw) before.going })
Turns before path Claim (Some (Claimed claim)) after =
    Claims before.desk claim after.desk × (after ≡ record before { desk = after.desk; going = goes_on (Claimed claim) before.going })
Turns before path (Look key) (Some (Looked seen)) after =
    Looks (to_whom before) (row_of before.rows key) (pins_of before.pins key) key path seen × (after ≡ before)
Turns before path (Look key) None after = after ≡ before
Turns before path (Enter key numbers) (Some (Entered kept)) after =
    EntersIn before.rows (pins_of before.pins key) key numbers kept after.rows
    × (after ≡ record before { rows = after.rows; pins = pinned before.pins key kept })
Turns before path (Leave kept key update) (Some LeftIt) after =
    IsLeftIn before.rows kept key update after.rows × (after ≡ record before { rows = after.rows; pins = unpinned before.pins key kept })
Turns before path (Post note) (Some PostedIt) after =
    after ≡ record before { desk = record before.desk { posted = first_posted before.desk.posted note } }
Turns before path request answer after = ⊥
