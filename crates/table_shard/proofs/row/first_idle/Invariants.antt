use Rattle.std.proofs.Common.{◌<◌, ℕ}
use Rattle.table_shard.specs.Row.{IsIdle}
use Rattle.table_shard.proofs.row.first_idle.Given as goal

-- none so far
abbrev pub invariant-loop-slot : goal.invariant-loop-slot
invariant-loop-slot l = (k : ℕ) → k < l.slot → ¬ IsIdle l.entries l.pins k
