use Rattle.std.proofs.Common.{◌≡◌, length}
use Rattle.table_shard.specs.Made.{AreRows, rows_of}
use Rattle.table_shard.proofs.shard.Shard.clear.Given as goal

-- the rows stay as they are to be, and as many
abbrev pub invariant-loop-self : goal.invariant-loop-self
invariant-loop-self l = AreRows l.self-inside.rows × (length (rows_of l.self-inside.rows) ≡ length l.fn.self)

abbrev pub decreases-loop-self : goal.decreases-loop-self
decreases-loop-self l = length l.self-inside.rows.places.items
