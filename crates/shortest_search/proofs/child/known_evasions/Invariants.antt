use Rattle.shortest_facts.specs.Keys.{known_of}
use Rattle.shortest_search.specs.Children.{IsKnownEvasion}
use Rattle.shortest_search.proofs.Knowing.{AreSome}
use Rattle.shortest_search.proofs.child.known_evasions.Given as goal

abbrev pub invariant-loop-place : goal.invariant-loop-place
invariant-loop-place l = AreSome (IsKnownEvasion (known_of l.facts) l.position) l.by-items l.place l.children.items
