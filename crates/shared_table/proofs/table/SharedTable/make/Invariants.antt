use Rattle.std.proofs.Common.{◌≤◌, ◌-◌, length}
use Rattle.shared_table.proofs.table.SharedTable.make.Given as goal

-- no more shards than there shall be
abbrev pub invariant-loop-shards : goal.invariant-loop-shards
invariant-loop-shards g l = length l.shards.items ≤ l.count

abbrev pub decreases-loop-shards : goal.decreases-loop-shards
decreases-loop-shards g l = l.count - length l.shards.items
