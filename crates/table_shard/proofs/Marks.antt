-- The marks of a row's entries, as the row changes.
use Rattle.std.proofs.Common.{◌≡◌, ◌<◌, ◌++◌, ℕ, zero, suc, List, [], ◌∷◌, length, get_or, set, refl, sym, ap, ◌∙◌, arith}
use Rattle.std.proofs.lemmas.List.{length-map, map-append, map-set}
use Rattle.notes.specs.declared.words.Update.{Update}
use Rattle.board_core.specs.declared.keys.Key.{Key}
use Rattle.table_shard.specs.Entry.{EntryView}
use Rattle.table_shard.specs.Marks.{marks_of}
use Rattle.table_shard.specs.Row.{left}
use Rattle.table_shard.specs.Spot.{mark_of}
use Rattle.table_shard.proofs.Rows.{updated-key}

-- the mark of an entry
abbrev pub mark_in : EntryView → ℕ
mark_in entry = mark_of entry.key

-- there are as many as entries
pub marks_long : (row : List EntryView) (marks : List ℕ) → marks ≡ marks_of row → length marks ≡ length row
marks_long row marks are = ap length are ∙ length-map row mark_in

-- an entry is put behind
pub marks_pushed : (row : List EntryView) (entry : EntryView) (mark : ℕ) (marks : List ℕ) → marks ≡ marks_of row → mark ≡ mark_of entry.key
    → marks ++ mark ∷ [] ≡ marks_of (row ++ entry ∷ [])
marks_pushed row entry mark marks are is = rw (are, is) (sym (map-append mark_in row (entry ∷ [])))

-- an entry is put into a slot
pub marks_set : (row : List EntryView) (slot : ℕ) (entry : EntryView) (mark : ℕ) (marks : List ℕ) → marks ≡ marks_of row → mark ≡ mark_of entry.key
    → set marks slot mark ≡ marks_of (set row slot entry)
marks_set row slot entry mark marks are is = rw (are, is) (sym (map-set mark_in row slot entry))

-- a slot is left
pub marks_left : (row : List EntryView) (slot : ℕ) (update : Update) → marks_of (left row slot update) ≡ marks_of row
marks_left [] slot update = refl
marks_left (x ∷ xs) zero update = ap (λ (k : Key). mark_of k ∷ marks_of xs) (updated-key x update)
marks_left (x ∷ xs) (suc slot) update = ap (λ (ms : List ℕ). mark_of x.key ∷ ms) (marks_left xs slot update)

-- the mark in a slot
pub mark_at : (row : List EntryView) (slot d : ℕ) (e : EntryView) → slot < length row → get_or (marks_of row) slot d ≡ mark_of (get_or row slot e).key
mark_at [] slot d e there = absurd (omega (arith, there))
mark_at (x ∷ xs) zero d e there = refl
mark_at (x ∷ xs) (suc slot) d e there = mark_at xs slot d e (omega (arith, there))
