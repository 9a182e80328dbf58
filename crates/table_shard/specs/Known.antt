-- Notes that are known before anyone searches: how a table takes them in.
use Rattle.std.specs.Prelude.{◌≡◌, ℕ, List, [], ◌∷◌, replicate}
use Rattle.board_core.specs.declared.keys.Key.{Key}
use Rattle.board_core.specs.Key.{key_of}
use Rattle.pn_numbers.specs.declared.numbers.Numbers.{Numbers}
use Rattle.notes.specs.Derivation.{Derivation, position_of}
use Rattle.notes.specs.declared.words.Kept.TheVariants.{Slot}
use Rattle.notes.specs.declared.words.Update.TheVariants.{Note as AddNote}
use Rattle.table_shard.specs.Entry.{EntryView}
use Rattle.table_shard.specs.Shard.{EntersIn, IsLeftAt}

-- The numbers of a position of which nothing but the note is known.
abbrev pub one_each : Numbers
one_each = record { pn = 1; dn = 1 }

-- A note is taken in: its position is entered with the numbers (1,1), where no worker is below any
-- slot of the row, and the slot is left with the note.
pub record TakesNote (rows : List (List EntryView)) (note : Derivation) (after : List (List EntryView)) : Type 0 where
  pub key : Key
  pub about : key.0 ≡ key_of (position_of note)
  pub slot : ℕ
  pub between : List (List EntryView)
  pub enters : EntersIn rows (replicate 8 0) key one_each (Slot slot) between
  pub leaves : IsLeftAt between slot key (AddNote note) after

-- Notes are taken in, one after the other.
abbrev pub TakesNotes : List (List EntryView) → List Derivation → List (List EntryView) → Type 0
TakesNotes rows [] after = after ≡ rows
TakesNotes rows (note ∷ notes) after = (between : List (List EntryView)) × TakesNote rows note between × TakesNotes between notes after
