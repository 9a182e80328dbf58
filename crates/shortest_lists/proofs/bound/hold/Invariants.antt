use Rattle.shortest_facts.specs.Keys.{known_of}
use Rattle.shortest_lists.proofs.Bounds.{AreAnswered}
use Rattle.shortest_lists.proofs.bound.hold.Given as goal

abbrev pub invariant-loop-check : goal.invariant-loop-check
invariant-loop-check l =
    AreAnswered (known_of l.facts) l.problem.position l.most l.place l.initial.walk.entries.items l.walk l.check-items l.check-index
