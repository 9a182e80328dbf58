use Rattle.std.proofs.Common.{◌+◌, ◌-◌}
use Rattle.shortest_facts.specs.Keys.{known_of}
use Rattle.shortest_search.specs.Visit.{GoesOn}
use Rattle.shortest_search.proofs.Attacking.{StaysQuiet}
use Rattle.shortest_search.proofs.lengths.find_length.Given as goal

abbrev pub invariant-loop-limit : goal.invariant-loop-limit
invariant-loop-limit g l = record {
  goes_on : GoesOn l.fn.run l.run;
  quiet : StaysQuiet l.fn.run.made l.run.made (g.T.Stop.signal l.fn.stop) (g.T.Stop.signal l.stop);
}

abbrev pub decreases-loop-limit : goal.decreases-loop-limit
decreases-loop-limit g l = (l.fn.limit + 1) - ((known_of l.run.facts).at l.problem.position).least
