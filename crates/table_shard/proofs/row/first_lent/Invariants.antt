use Rattle.std.proofs.Common.{◌<◌, ℕ}
use Rattle.table_shard.specs.Row.{LendsAt}
use Rattle.table_shard.proofs.row.first_lent.Given as goal

-- none so far lends a note
abbrev pub invariant-loop-slot : goal.invariant-loop-slot
invariant-loop-slot l = (k : ℕ) → k < l.slot → ¬ LendsAt l.attacker l.key l.entries.items k
