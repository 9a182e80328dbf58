use Rattle.std.proofs.Common.{◌<◌, ℕ}
use Rattle.table_shard.specs.Row.{HoldsAt}
use Rattle.table_shard.proofs.row.slot_of.Given as goal

-- none so far is the key's
abbrev pub invariant-loop-slot : goal.invariant-loop-slot
invariant-loop-slot l = (k : ℕ) → k < l.slot → ¬ HoldsAt l.entries.items k l.key
