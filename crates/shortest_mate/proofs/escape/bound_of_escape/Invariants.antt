use Rattle.shortest_mate.proofs.Escapes.{AreListed}
use Rattle.shortest_mate.proofs.escape.bound_of_escape.Given as goal

abbrev pub invariant-loop-position : goal.invariant-loop-position
invariant-loop-position l = AreListed l.limit l.position-items l.position-index l.entries.items
