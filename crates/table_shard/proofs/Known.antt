-- Notes are taken in, where no worker is below any slot.
use Rattle.std.proofs.Common.{◌≡◌, ℕ, List, length, get_or, replicate, ap, subst, arith}
use Rattle.board_core.specs.declared.keys.Key.{Key}
use Rattle.board_core.specs.Key.{key_of}
use Rattle.notes.specs.Derivation.{Derivation, position_of}
use Rattle.notes.specs.declared.words.Kept.TheVariants.{Slot, Unkept}
use Rattle.notes.specs.declared.words.Update.TheVariants.{Note as AddNote}
use Rattle.table_shard.specs.Entry.{EntryView}
use Rattle.table_shard.specs.Known.{TakesNote, one_each}
use Rattle.table_shard.specs.Pins.{TellsCount}
use Rattle.table_shard.specs.Shard.{EntersIn, EntersInBy, IsLeftAt}
use Rattle.table_shard.specs.declared.pins.RowPins.{RowPins}
use Rattle.table_shard.proofs.Standing.{TellsStanding, enters_standing}

-- The counts of a row that nobody else changes, and that they are told as they stand.
abbrev counts_in : RowPins → List ℕ
counts_in pins = pins.counts.now

abbrev pub tells : RowPins → ℕ → ℕ → RowPins → Type 0
tells before slot count after = TellsCount (counts_in before) slot count × (before ≡ after)

tells_standing : TellsStanding counts_in tells
tells_standing before after slot count told = told

pub takes_note : (rows : List (List EntryView)) (note : Derivation) (key : Key) (slot : ℕ) (before after : RowPins) (between later : List (List EntryView))
    → key.0 ≡ key_of (position_of note) → counts_in before ≡ replicate 8 0 → EntersInBy tells rows key one_each before (Slot slot) between after
    → IsLeftAt between slot key (AddNote note) later → TakesNote rows note later
takes_note rows note its_key its_slot before after its_between later is none entered left_so = record {
  key = its_key;
  about = is;
  slot = its_slot;
  between = its_between;
  enters = subst (λ (counts : List ℕ). EntersIn rows counts its_key one_each (Slot its_slot) its_between) none
      (enters_standing counts_in tells tells_standing rows its_key one_each before after (Slot its_slot) its_between (ap length none) entered);
  leaves = left_so;
}

-- It is never so that there is no slot.
pub never_unkept : {A : Type 0} (rows : List (List EntryView)) (key : Key) (before after : RowPins) (between : List (List EntryView)) → counts_in before ≡ replicate 8 0
    → EntersInBy tells rows key one_each before Unkept between after → A
never_unkept rows key before after between none entered =
    let full = enters_standing counts_in tells tells_standing rows key one_each before after Unkept between (ap length none) entered in
    let some = full.enters.2 0 (omega arith) in
    let zero_there : get_or (counts_in before) 0 0 ≡ 0 = ap (λ (counts : List ℕ). get_or counts 0 0) none in
    absurd (omega (arith, some, zero_there))
