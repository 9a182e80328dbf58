use Rattle.std.proofs.Common.{◌≡◌, ◌+◌, length}
use Rattle.std.specs.Vec.{vec_capacity}
use Rattle.shared_table.proofs.table.SharedTable.turned.Given as goal

-- each shard is in one of the two lists, and there is room for all
abbrev pub invariant-loop-shard : goal.invariant-loop-shard
invariant-loop-shard g l = (length l.spare.items + length l.shards.items ≡ length l.initial.shards.items) × (vec_capacity l.spare ≡ vec_capacity l.initial.spare)
    × (vec_capacity l.shards ≡ vec_capacity l.initial.shards)

abbrev pub decreases-loop-shard : goal.decreases-loop-shard
decreases-loop-shard g l = goal.left-loop-shard g l
