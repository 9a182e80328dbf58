-- The rows of a table and their counts, once a row and its counts have changed.
use Rattle.std.proofs.Common.{◌≡◌, ◌<◌, ◌≤◌, ◌+◌, ℕ, List, [], length, get_or, set, sum, inl, inr, sym, subst, ap, ◌∙◌, arith}
use Rattle.std.specs.Prelude.{sum_by}
use Rattle.std.proofs.lemmas.Bool.{cases_eq}
use Rattle.std.proofs.lemmas.List.{get_or-set_same, get_or-set_other}
use Rattle.std.proofs.lemmas.List.Sums.{sum_by-set}
use Rattle.table_shard.specs.Entry.{EntryView}

-- The sum of all counts moves as that of the counts of a place does.
pub size_moves : (pins : List (List ℕ)) (p slot count : ℕ) → p < length pins → slot < length (get_or pins p [])
    → sum_by sum (set pins p (set (get_or pins p []) slot count)) + get_or (get_or pins p []) slot 0 ≡ sum_by sum pins + count
size_moves pins p slot count there within =
    let all = sum_by-set sum pins p (set (get_or pins p []) slot count) [] there in
    let one = sum_by-set (λ (x : ℕ). x) (get_or pins p []) slot count 0 within in
    omega (arith, all, one)

-- A slot with visits below it still has an entry.
pub there_moves : (rows : List (List EntryView)) (pins : List (List ℕ)) (p : ℕ) (row : List EntryView) (counts : List ℕ) → p < length rows → length pins ≡ length rows
    → ((s : ℕ) → 0 < get_or counts s 0 → s < length row)
    → ((place slot : ℕ) → 0 < get_or (get_or pins place []) slot 0 → slot < length (get_or rows place []))
    → (place slot : ℕ) → 0 < get_or (get_or (set pins p counts) place []) slot 0 → slot < length (get_or (set rows p row) place [])
there_moves rows pins p row counts within as_many here there place slot some = elim (cases_eq place p) [
  | inl same ↦
      let mine : get_or (set pins p counts) place [] ≡ counts =
      ap (λ (n : ℕ). get_or (set pins p counts) n []) same ∙ get_or-set_same pins p counts [] (omega (arith, within, as_many)) in
      let its : get_or (set rows p row) place [] ≡ row = ap (λ (n : ℕ). get_or (set rows p row) n []) same ∙ get_or-set_same rows p row [] within in
      subst (λ (r : List EntryView). slot < length r) (sym its) (here slot (subst (λ (c : List ℕ). 0 < get_or c slot 0) mine some))
  | inr not ↦
      subst (λ (r : List EntryView). slot < length r) (sym (get_or-set_other rows p place row [] not))
      (there place slot (subst (λ (c : List ℕ). 0 < get_or c slot 0) (get_or-set_other pins p place counts [] not) some))
]

-- A row with as many slots or more has entries where a slot or the count of another has changed.
pub there_at : (row : List EntryView) (before : List EntryView) (counts : List ℕ) (slot count : ℕ) → slot < length row → length before ≤ length row
    → ((s : ℕ) → 0 < get_or counts s 0 → s < length before) → (s : ℕ) → 0 < get_or (set counts slot count) s 0 → s < length row
there_at row before counts slot count within grows there s some = elim (cases_eq s slot) [
  | inl same ↦ omega (arith, same, within)
  | inr not ↦ let old = there s (subst (λ (n : ℕ). 0 < n) (get_or-set_other counts slot s count 0 not) some) in omega (arith, old, grows)
]
