use Rattle.std.proofs.Common.{◌≤◌, ◌-◌, length}
use Rattle.trace.proofs.ports.plain_rows.Given as goal

-- no more shards than there shall be
abbrev pub invariant-loop-alloc : goal.invariant-loop-alloc
invariant-loop-alloc g l = length l.shards.items ≤ l.count

abbrev pub decreases-loop-alloc : goal.decreases-loop-alloc
decreases-loop-alloc g l = l.count - length l.shards.items
