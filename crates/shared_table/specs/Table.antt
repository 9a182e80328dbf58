-- A table that is cut into shards.
use Rattle.std.specs.Prelude.{ℕ}
use Rattle.atomic_table.specs.Seated.{TableId}

-- Which words count its workers, in how many shards it is cut, and how many rows each shard has.
pub record SharedTableView : Type 0 where
  pub words : TableId
  pub shards : ℕ
  pub own : ℕ
