use Rattle.std.proofs.Common.{◌≡◌, length}
use Rattle.table_shard.specs.Emptied.{AreUncounted}
use Rattle.table_shard.specs.Made.{AreRows, rows_of}
use Rattle.table_shard.proofs.shard.Shard.empty.Given as goal

-- the rows stay as they are to be, and as many, and rows without entries have no counts
abbrev pub invariant-loop-place : goal.invariant-loop-place
invariant-loop-place l = AreRows l.self-inside.rows × (length (rows_of l.self-inside.rows) ≡ length l.fn.self) × AreUncounted (rows_of l.self-inside.rows) l.pins

abbrev pub decreases-loop-place : goal.decreases-loop-place
decreases-loop-place l = length l.self-inside.rows.places.items
