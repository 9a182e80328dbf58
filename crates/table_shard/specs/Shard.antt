-- A shard: rows, and what is done to the one that a position has.
use Rattle.std.specs.Prelude.{◌≡◌, ◌<◌, ◌⊎◌, ℕ, List, [], length, slice_index, slice_index_or, slice_set}
use Rattle.board_core.specs.declared.keys.Key.{Key}
use Rattle.pn_numbers.specs.declared.numbers.Numbers.{Numbers}
use Rattle.notes.specs.declared.words.Kept.{Kept}
use Rattle.notes.specs.declared.words.Update.{Update}
use Rattle.table_shard.specs.Entry.{EntryView}
use Rattle.table_shard.specs.Row.{HoldsAt, Enters, AsksToEnter, left}
use Rattle.table_shard.specs.Spot.{place_of}

-- The key's row.
abbrev pub row_of : List (List EntryView) → Key → List EntryView
row_of rows key = slice_index_or rows (place_of key (length rows)) []

-- The rows with another in place of the key's.
abbrev pub with_row : List (List EntryView) → Key → List EntryView → List (List EntryView)
with_row rows key row = slice_set rows (place_of key (length rows)) row

-- What entering the key with these numbers answers, and the rows after it: the key's row does what
-- rows do, and the others stay.
pub record EntersIn (rows : List (List EntryView)) (pins : List ℕ) (key : Key) (numbers : Numbers) (kept : Kept) (after : List (List EntryView)) : Type 0 where
  pub row : List EntryView
  pub enters : Enters (row_of rows key) pins key numbers kept row
  pub others : after ≡ with_row rows key row

-- An entry of the key that is in the slot stays there.
abbrev pub StaysAt : List (List EntryView) → List (List EntryView) → Key → ℕ → Type 0
StaysAt rows after key slot = HoldsAt (row_of rows key) slot key → HoldsAt (row_of after key) slot key

-- Every entry that is in the key's row with a worker below it, or in another row, stays in its
-- slot.
abbrev pub KeepsPinned : List (List EntryView) → List ℕ → Key → List (List EntryView) → Type 0
KeepsPinned rows pins key after =
    (other : Key) (slot : ℕ) → (place_of other (length rows) ≡ place_of key (length rows) → 0 < slice_index pins slot) → StaysAt rows after other slot

-- What entering the key answers by counts that are asked for one by one, and the rows after it.
pub record EntersInBy {P : Type 0} (told : P → ℕ → ℕ → P → Type 0) (rows : List (List EntryView)) (key : Key) (numbers : Numbers) (before : P) (kept : Kept) (later : List (List EntryView)) (after : P) : Type 0 where
  pub counts : List ℕ
  pub enters : EntersIn rows counts key numbers kept later
  pub asks : AsksToEnter told (row_of rows key) key before counts after
  pub pinned : KeepsPinned rows counts key later

-- The rows after a slot of the key's row is left with an update: the slot's entry is updated where
-- it is the key's; else nothing changes.
abbrev pub IsLeftAt : List (List EntryView) → ℕ → Key → Update → List (List EntryView) → Type 0
IsLeftAt rows slot key update after =
    (HoldsAt (row_of rows key) slot key × (after ≡ with_row rows key (left (row_of rows key) slot update)))
    ⊎ ((¬ HoldsAt (row_of rows key) slot key) × (after ≡ rows))
