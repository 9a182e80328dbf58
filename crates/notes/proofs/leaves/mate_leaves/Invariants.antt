use Rattle.std.proofs.Common.{◌≡◌, take}
use Rattle.notes.specs.Sets.{mate_leaves_among, ranked}
use Rattle.notes.proofs.leaves.mate_leaves.Given as goal

abbrev pub invariant-loop-entry : goal.invariant-loop-entry
invariant-loop-entry l = l.leaves.items ≡ mate_leaves_among l.version l.attacker (ranked l.fn.entries.items) (take l.entry-index l.entry-items)
