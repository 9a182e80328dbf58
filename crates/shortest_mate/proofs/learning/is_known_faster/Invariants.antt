use Rattle.shortest_facts.specs.Keys.{known_of}
use Rattle.shortest_mate.proofs.Faster.{AreFaster}
use Rattle.shortest_mate.proofs.learning.is_known_faster.Given as goal

abbrev pub invariant-loop-evasion : goal.invariant-loop-evasion
invariant-loop-evasion l = AreFaster (known_of l.facts) l.checked l.most l.evasion-items l.evasion-index
