-- How a shard keeps its rows, of which those are made that were entered: it serves private
-- functions alone.
use Rattle.std.specs.Prelude.{◌≡◌, ◌<◌, ◌≤◌, ◌+◌, ◌-◌, ◌==◌, ◌^◌, ℕ, Bool, List, [], All, length, count_by, map, slice_index, slice_index_or, slice_set}
use Rattle.std.specs.Vec.{vec_capacity}
use Rattle.pn_numbers.specs.declared.numbers.Numbers.{Numbers}
use Rattle.board_core.specs.declared.keys.Key.{Key}
use Rattle.notes.specs.declared.words.Kept.{Kept}
use Rattle.table_shard.specs.Entry.{EntryView}
use Rattle.table_shard.specs.Row.{IsRow, EntersBy}
use Rattle.table_shard.specs.declared.made_rows.Rows.{Rows}

-- Each place has the row with its number among those that are made.
abbrev pub rows_at : List ℕ → List (List EntryView) → List (List EntryView)
rows_at numbers made = map (λ number. slice_index_or made number []) numbers

-- Whether a number is that of a place whose row isn't made yet.
abbrev pub is_blank : ℕ → Bool
is_blank number = number == 0

-- What is kept of numbers, of the rows that are made, and of the places of all but the first: that
-- one has no entries and is every place's that has no row of its own; the others are one place's
-- each, in the order of the places; each is as rows are.
pub record AreMade (numbers : List ℕ) (made : List (List EntryView)) (places : List ℕ) : Type 0 where
  pub few : length numbers < 2 ^ 32
  pub blank : slice_index_or made 0 [] ≡ []
  pub each : All IsRow made
  pub as_many : length made ≡ length places + 1
  pub within : All (λ place. place < length numbers) places
  pub numbered : (at : ℕ) → at < length places → slice_index numbers (slice_index places at) ≡ at + 1
  pub low : (place : ℕ) → place < length numbers → slice_index numbers place ≤ length places
  pub placed : (place : ℕ) → place < length numbers → 0 < slice_index numbers place → slice_index places (slice_index numbers place - 1) ≡ place
  pub unmade : length places + count_by is_blank numbers ≤ length numbers

-- The rows that are kept so.
abbrev pub rows_of : Rows → List (List EntryView)
rows_of rows = rows_at rows.numbers.items rows.made.items

-- They are kept so, and there is room for all that aren't made yet.
pub record AreRows (rows : Rows) : Type 0 where
  pub made : AreMade rows.numbers.items rows.made.items rows.places.items
  pub for_rows : length rows.numbers.items < vec_capacity rows.made
  pub for_places : length rows.numbers.items ≤ vec_capacity rows.places

-- What is kept of a shard: it has a row, and keeps its rows so.
pub record IsShard (rows : Rows) : Type 0 where
  pub some : 0 < length (rows_of rows)
  pub kept : AreRows rows

-- What entering the key at a place answers, and the rows after it: the place's row does what rows
-- do, and the others stay.
pub record EntersAt {P : Type 0} (told : P → ℕ → ℕ → P → Type 0) (rows : List (List EntryView)) (place : ℕ) (key : Key) (numbers : Numbers) (before : P) (kept : Kept) (later : List (List EntryView)) (after : P) : Type 0 where
  pub row : List EntryView
  pub enters : EntersBy told (slice_index_or rows place []) key numbers before kept row after
  pub others : later ≡ slice_set rows place row
