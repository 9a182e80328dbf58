-- A seat at the words of a table: the row where it is asked, and what each step on a slot's word
-- does to it.
use Rattle.std.specs.Prelude.{◌≡◌, ◌+◌, ◌≤◌, ℕ}
use Rattle.worker_counts.specs.Counts.{SeatView, times, after_load, after_add, after_subtract}

-- A seat, and the word of the first slot of the row where it is asked.
pub record RowSeatView : Type 0 where
  pub seat : SeatView
  pub row : ℕ

-- It goes to another row.
abbrev pub at_row : RowSeatView → ℕ → RowSeatView
at_row before word = record before { row = word }

-- The word of a slot of its row.
abbrev pub word_at : RowSeatView → ℕ → ℕ
word_at s slot = s.row + slot

-- A seat at the same row of the same words that has added the same, and has as many parts: it may
-- have loaded more.
pub record IsSameSeat (before after : RowSeatView) : Type 0 where
  pub row : after.row ≡ before.row
  pub counts : after.seat.counts ≡ before.seat.counts
  pub parts : after.seat.view.parts ≡ before.seat.view.parts
  pub added : after.seat.view.added ≡ before.seat.view.added

-- The count of the slot's word is loaded: it is at least as often as the seat has added to it.
abbrev pub Loads : RowSeatView → ℕ → ℕ → RowSeatView → Type 0
Loads before slot count after =
    (after ≡ record before { seat = record before.seat { view = after_load before.seat.view (word_at before slot) count } })
    × (times (word_at before slot) before.seat.view.added ≤ count)

-- One is added to the slot's word, whose count was this before.
abbrev pub Adds : RowSeatView → ℕ → RowSeatView → Type 0
Adds before slot after =
    (count : ℕ) × (after ≡ record before { seat = record before.seat { view = after_add before.seat.view (word_at before slot) count } })
    × (times (word_at before slot) before.seat.view.added ≤ count)

-- One that it has added is taken from the slot's word, whose count was this before.
abbrev pub Subtracts : RowSeatView → ℕ → RowSeatView → Type 0
Subtracts before slot after =
    (count : ℕ) × (after ≡ record before { seat = record before.seat { view = after_subtract before.seat.view (word_at before slot) count } })
    × (times (word_at before slot) before.seat.view.added ≤ count)
