-- What a task does to the shards of a table.
use Rattle.std.specs.Prelude.{◌≡◌, ◌<◌, ℕ, List, Option, Some, None, All, length, slice_get, slice_set}
use Rattle.bit_boards.specs.declared.piece.Side.{Side}
use Rattle.table_shard.specs.Entry.{EntryView, AreFor}
use Rattle.table_shard.specs.Row.{IsRow}

-- The rows of a shard, each with its entries.
abbrev pub ShardRows : Type 0
ShardRows = List (List EntryView)

-- What is kept of a shard: it has a row, each row is kept as rows are, and all notes are for the
-- attacker.
pub record IsKept (attacker : Side) (rows : ShardRows) : Type 0 where
  pub some : 0 < length rows
  pub rows_kept : All IsRow rows
  pub notes : All (All (AreFor attacker)) rows

-- A task ran between two shards that are kept so.
pub record Ran (attacker : Side) (ran : ShardRows → ShardRows → Type 0) (old new : ShardRows) : Type 0 where
  pub before : IsKept attacker old
  pub after : IsKept attacker new
  pub did : ran old new

-- Where shards are told, the task ran on the one of this number, and all others stay; where they
-- aren't, it ran on some shard.
abbrev pub RanOn : Side → Option (List ShardRows) → Option (List ShardRows) → ℕ → (ShardRows → ShardRows → Type 0) → Type 0
RanOn attacker None later shard ran = (later ≡ None) × ((old : ShardRows) × (new : ShardRows) × Ran attacker ran old new)
RanOn attacker (Some shards) later shard ran =
    (old : ShardRows) × (new : ShardRows) × (slice_get shards shard ≡ Some old) × (later ≡ Some (slice_set shards shard new)) × Ran attacker ran old new
