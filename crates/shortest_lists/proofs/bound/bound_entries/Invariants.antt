use Rattle.std.proofs.Common.{◌-◌}
use Rattle.shortest_facts.specs.Keys.{known_of}
use Rattle.shortest_lists.proofs.Bounds.{AreHeld}
use Rattle.shortest_lists.proofs.bound.bound_entries.Given as goal

abbrev pub invariant-loop-place : goal.invariant-loop-place
invariant-loop-place l = AreHeld (known_of l.facts) l.problem.position l.most l.fn.within l.walk l.place

abbrev pub decreases-loop-place : goal.decreases-loop-place
decreases-loop-place l = l.most - l.place
