-- The marks of a row's entries: it serves private functions alone.
use Rattle.std.specs.Prelude.{ℕ, List, map}
use Rattle.table_shard.specs.Entry.{EntryView}
use Rattle.table_shard.specs.Spot.{mark_of}

-- The mark of each entry, in the order of the slots.
abbrev pub marks_of : List EntryView → List ℕ
marks_of entries = map (λ entry. mark_of entry.key) entries
