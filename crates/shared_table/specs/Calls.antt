-- What a shard and a seat do for one request of a worker.
use Rattle.std.specs.Prelude.{◌≡◌, ◌<◌, ◌≤◌, ◌+◌, ◌*◌, ℕ}
use Rattle.board_core.specs.declared.keys.Key.{Key}
use Rattle.pn_numbers.specs.declared.numbers.Numbers.{Numbers}
use Rattle.notes.specs.declared.words.Kept.{Kept}
use Rattle.notes.specs.declared.words.Kept.TheVariants.{Slot, Unkept}
use Rattle.notes.specs.declared.words.Update.{Update}
use Rattle.table_shard.specs.Shard.{EntersInBy}
use Rattle.table_shard.specs.Spot.{hash_of, word_of}
use Rattle.table_shard.specs.declared.hash.Site.{Site}
use Rattle.worker_counts.specs.Counts.{times}
use Rattle.lone_port.specs.Lone.{IsLeftIn}
use Rattle.shared_table.specs.Rows.{ShardRows}
use Rattle.shared_table.specs.Seat.{RowSeatView, IsSameSeat, word_at, Loads, Adds, Subtracts}

-- The site is the key's: it has the key's hash, and the word of the first slot of the key's row,
-- where there are eight words for each row.
pub record IsSiteOf (site : Site) (key : Key) (words : ℕ) : Type 0 where
  pub hash : site.hash ≡ hash_of key.0
  pub inside : site.word + 8 ≤ words
  pub word : (rows : ℕ) → words ≡ 8 * rows → site.word ≡ word_of rows key 0

-- One worker more is below the slot that was answered, where one was.
abbrev pub AddsKept : RowSeatView → Kept → RowSeatView → Type 0
AddsKept before Unkept after = after ≡ before
AddsKept before (Slot slot) after = (slot < 8) × Adds before slot after

-- The key's row enters the key as rows do, by the counts that are loaded; then one worker more is
-- below its slot.
pub record EntersAndAdds (rows : ShardRows) (seat : RowSeatView) (key : Key) (numbers : Numbers) (kept : Kept) (later : ShardRows) (last : RowSeatView) : Type 0 where
  pub between : RowSeatView
  pub enters : EntersInBy Loads rows key numbers seat kept later between
  pub same : IsSameSeat seat between
  pub adds : AddsKept between kept last

-- What was entered so may be left: where that is a slot, the seat has added to its word.
abbrev pub MayLeave : RowSeatView → Kept → Type 0
MayLeave seat Unkept = Unit {0}
MayLeave seat (Slot slot) = (slot < 8) × (0 < times (word_at seat slot) seat.seat.view.added)

-- One worker less is below the slot, where there is one.
abbrev pub SubtractsKept : RowSeatView → Kept → RowSeatView → Type 0
SubtractsKept before Unkept after = after ≡ before
SubtractsKept before (Slot slot) after = Subtracts before slot after

-- The slot's entry is updated where it is the key's, else nothing changes; and one worker less is
-- below the slot.
pub record LeavesAndSubtracts (rows : ShardRows) (seat : RowSeatView) (kept : Kept) (key : Key) (update : Update) (later : ShardRows) (last : RowSeatView) : Type 0 where
  pub left : IsLeftIn rows kept key update later
  pub subtracts : SubtractsKept seat kept last
