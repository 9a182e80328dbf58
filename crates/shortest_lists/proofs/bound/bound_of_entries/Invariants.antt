use Rattle.std.proofs.Common.{◌≡◌, take}
use Rattle.bound_text.specs.Bound.{bounded_in}
use Rattle.shortest_lists.proofs.bound.bound_of_entries.Given as goal

abbrev pub invariant-loop-entry : goal.invariant-loop-entry
invariant-loop-entry l = l.positions.items ≡ bounded_in (take l.entry-index l.entries)
