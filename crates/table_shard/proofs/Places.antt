-- Where a key's row is once one row has changed.
use Rattle.std.proofs.Common.{◌≡◌, ◌≢◌, ◌<◌, ◌%◌, ℕ, List, [], length, get_or, set, inl, inr, sym, subst, ap, ◌∙◌, arith, refl}
use Rattle.std.proofs.lemmas.Bool.{cases_eq}
use Rattle.std.proofs.lemmas.List.{length-set, get_or-set_same, get_or-set_other}
use Rattle.board_core.specs.declared.keys.Key.{Key}
use Rattle.table_shard.specs.Entry.{EntryView}
use Rattle.pn_numbers.specs.declared.numbers.Numbers.{Numbers}
use Rattle.notes.specs.declared.words.Kept.{Kept}
use Rattle.table_shard.specs.Row.{HoldsAt, Enters, EntersBy, AsksToEnter, IsKeptAt}
use Rattle.table_shard.specs.Shard.{row_of, with_row, KeepsPinned, EntersIn, EntersInBy}
use Rattle.table_shard.specs.Spot.{hash_of, place_of, spot_of}
use Rattle.table_shard.specs.declared.hash.Spot.{Spot}
use Rattle.table_shard.proofs.Rows.{enters_held, enters_stays}

pub place_within : (key : Key) (rows : ℕ) → 0 < rows → place_of key rows < rows
place_within key rows some = let h = hash_of key.0 in let low : h % rows < rows = omega (arith, some) in low

-- a spot lies within the rows
pub spot_within : (rows : List (List EntryView)) (spot : Spot) (key : Key) → 0 < length rows → spot ≡ spot_of key (length rows) → spot.place < length rows
spot_within rows spot key some is = subst (λ (n : ℕ). n < length rows) (sym (ap (λ (s : Spot). s.place) is)) (place_within key (length rows) some)

-- the key's row is the one that was put in its place
pub row_of_same : (rows : List (List EntryView)) (key : Key) (row : List EntryView) → 0 < length rows → row_of (with_row rows key row) key ≡ row
row_of_same rows key row some =
    ap (λ (n : ℕ). get_or (with_row rows key row) (place_of key n) []) (length-set rows (place_of key (length rows)) row)
    ∙ get_or-set_same rows (place_of key (length rows)) row [] (place_within key (length rows) some)

-- the row of a key at another place stays
row_of_other : (rows : List (List EntryView)) (key other : Key) (row : List EntryView) → place_of other (length rows) ≢ place_of key (length rows)
    → row_of (with_row rows key row) other ≡ row_of rows other
row_of_other rows key other row not =
    ap (λ (n : ℕ). get_or (with_row rows key row) (place_of other n) []) (length-set rows (place_of key (length rows)) row)
    ∙ get_or-set_other rows (place_of key (length rows)) (place_of other (length rows)) row [] not

-- what stays in the key's row, where that of another is the same, stays
pub stays_in : (rows : List (List EntryView)) (key other : Key) (row : List EntryView) (slot : ℕ) → 0 < length rows
    → (place_of other (length rows) ≡ place_of key (length rows) → HoldsAt (row_of rows key) slot other → HoldsAt row slot other)
    → HoldsAt (row_of rows other) slot other → HoldsAt (row_of (with_row rows key row) other) slot other
stays_in rows key other row slot some keeps h = elim (cases_eq (place_of other (length rows)) (place_of key (length rows))) [
  | inl same ↦
      let e : row_of (with_row rows key row) other ≡ row =
      ap (λ (n : ℕ). get_or (with_row rows key row) (place_of other n) []) (length-set rows (place_of key (length rows)) row)
      ∙ (ap (λ (n : ℕ). get_or (with_row rows key row) n []) same ∙ get_or-set_same rows (place_of key (length rows)) row [] (place_within key (length rows) some)) in
      subst (λ (r : List EntryView). HoldsAt r slot other) (sym e) (keeps same (subst (λ (n : ℕ). HoldsAt (get_or rows n []) slot other) same h))
  | inr not ↦ subst (λ (r : List EntryView). HoldsAt r slot other) (sym (row_of_other rows key other row not)) h
]

-- after a key was entered, its entry is where the answer says
pub kept_in : (rows : List (List EntryView)) (place : ℕ) (pins : List ℕ) (key : Key) (numbers : Numbers) (kept : Kept) (before row : List EntryView)
    → 0 < length rows → place ≡ place_of key (length rows) → Enters before pins key numbers kept row → IsKeptAt (row_of (set rows place row) key) key kept
kept_in rows place pins key numbers kept before row some is enters =
    subst (λ (r : List EntryView). IsKeptAt r key kept)
    (sym (ap (λ (n : ℕ). row_of (set rows n row) key) is ∙ row_of_same rows key row some))
    (enters_held before pins key numbers kept row enters)

-- and entries with workers below are where they were
pub pinned_in : (rows : List (List EntryView)) (place : ℕ) (pins : List ℕ) (key : Key) (numbers : Numbers) (kept : Kept) (before row : List EntryView)
    → 0 < length rows → place ≡ place_of key (length rows) → before ≡ row_of rows key → Enters before pins key numbers kept row
    → KeepsPinned rows pins key (set rows place row)
pinned_in rows place pins key numbers kept before row some is old enters other slot pinned h =
    subst (λ (n : ℕ). HoldsAt (row_of (set rows n row) other) slot other) (sym is)
    (stays_in rows key other row slot some
    (λ same here. enters_stays before pins key numbers kept row slot other enters (pinned same) (subst (λ (r : List EntryView). HoldsAt r slot other) (sym old) here))
    h)

-- What a row answered by counts that are asked for, its table answers.
pub entered_by : {P : Type 0} (told : P → ℕ → ℕ → P → Type 0) (rows : List (List EntryView)) (place : ℕ) (key : Key) (numbers : Numbers) (before : P) (kept : Kept)
    (old row : List EntryView) (after : P) → 0 < length rows → place ≡ place_of key (length rows) → old ≡ row_of rows key
    → EntersBy told old key numbers before kept row after → EntersInBy told rows key numbers before kept (set rows place row) after
entered_by told rows place key numbers before kept old row after some is same by = record {
  counts = by.counts;
  enters = record {
    row = row;
    enters = subst (λ (r : List EntryView). Enters r by.counts key numbers kept row) same by.enters;
    others = ap (λ (n : ℕ). set rows n row) is;
  };
  asks = subst (λ (r : List EntryView). AsksToEnter told r key before by.counts after) same by.asks;
  pinned = pinned_in rows place by.counts key numbers kept old row some is same by.enters;
}

-- So it is in a table that was entered.
pub entered_at : (rows : List (List EntryView)) (pins : List ℕ) (key : Key) (numbers : Numbers) (kept : Kept) (after : List (List EntryView)) → 0 < length rows
    → EntersIn rows pins key numbers kept after → IsKeptAt (row_of after key) key kept
entered_at rows pins key numbers kept after some enters =
    subst (λ (r : List (List EntryView)). IsKeptAt (row_of r key) key kept) (sym enters.others)
    (kept_in rows (place_of key (length rows)) pins key numbers kept (row_of rows key) enters.row some refl enters.enters)
