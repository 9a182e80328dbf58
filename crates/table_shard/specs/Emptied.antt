-- Counts beside the rows of a shard.
use Rattle.std.specs.Prelude.{◌≡◌, ◌<◌, ℕ, List, [], length, replicate, slice_index_or}
use Rattle.table_shard.specs.Entry.{EntryView}

-- There are counts for each row, and those beside a row without entries are eight zeros.
pub record AreUncounted (rows : List (List EntryView)) (pins : List (List ℕ)) : Type 0 where
  pub as_many : length pins ≡ length rows
  pub free : (place : ℕ) → place < length rows → slice_index_or rows place [] ≡ [] → slice_index_or pins place [] ≡ replicate 8 0
