use Rattle.std.proofs.Common.{◌<◌, ℕ}
use Rattle.table_shard.specs.Row.{IsIdleUnsolved}
use Rattle.table_shard.proofs.row.first_idle_unsolved.Given as goal

-- none so far
abbrev pub invariant-loop-slot : goal.invariant-loop-slot
invariant-loop-slot l = (k : ℕ) → k < l.slot → ¬ IsIdleUnsolved l.entries l.pins k
