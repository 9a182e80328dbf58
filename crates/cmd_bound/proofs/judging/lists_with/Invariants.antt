use Rattle.std.proofs.Common.{◌≡◌, ◌<◌, ℕ}
use Rattle.std.specs.Prelude.{Some, slice_get}
use Rattle.mate_facts.specs.declared.entry.MateEntry.{MateEntry}
use Rattle.cmd_bound.proofs.judging.lists_with.Given as goal

-- no entry before it is the position's with this rank
abbrev pub invariant-loop-entry : goal.invariant-loop-entry
invariant-loop-entry l = (k : ℕ) (e : MateEntry) → k < l.entry-index → slice_get l.entries k ≡ Some e
    → (e.at ≡ l.position) × (e.rank.number ≡ l.rank.number) → ⊥
