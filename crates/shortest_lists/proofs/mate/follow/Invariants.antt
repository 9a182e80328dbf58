use Rattle.shortest_facts.specs.Keys.{known_of}
use Rattle.shortest_lists.proofs.Mates.{IsFollowing}
use Rattle.shortest_lists.proofs.mate.follow.Given as goal

abbrev pub invariant-loop-evasion : goal.invariant-loop-evasion
invariant-loop-evasion l =
    IsFollowing (known_of l.facts) l.problem.position l.most l.initial.walk.entries.items l.walk l.checked l.evasion-items l.evasion-index
