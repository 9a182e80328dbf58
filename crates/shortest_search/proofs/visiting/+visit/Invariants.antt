use Rattle.std.proofs.Common.{◌+◌, ◌-◌, ◌*◌}
use Rattle.shortest_facts.specs.Facts.{fewest}
use Rattle.shortest_facts.specs.Keys.{known_of}
use Rattle.shortest_search.specs.Visit.{GoesOn}
use Rattle.shortest_search.proofs.Attacking.{LastChecks, MatedEvasions, StaysQuiet}
use Rattle.shortest_search.proofs.visiting.+visit.Given as goal

abbrev pub decreases-try_check : goal.decreases-try_check
decreases-try_check g l = 8 * l.fewer + 8

abbrev pub decreases-attack : goal.decreases-attack
decreases-attack g l = 8 * l.within + 1

abbrev pub decreases-try_evasion : goal.decreases-try_evasion
decreases-try_evasion g l = 8 * l.within + 5

abbrev pub decreases-defend : goal.decreases-defend
decreases-defend g l = 8 * l.within + 6

abbrev pub decreases-visit : goal.decreases-visit
decreases-visit g l = 8 * l.within + 7 - 5 * fewest l.problem.now.position.side l.position.now.side

abbrev pub invariant-attack-loop-child : goal.invariant-attack-loop-child
invariant-attack-loop-child g l = record {
  goes_on : GoesOn l.fn.run l.run;
  lasts : LastChecks (known_of l.run.facts) l.position l.child-items l.child-index l.fewer l.low;
  quiet : StaysQuiet l.fn.run.made l.run.made (g.T.Stop.signal l.fn.stop) (g.T.Stop.signal l.stop);
}

abbrev pub invariant-defend-loop-child : goal.invariant-defend-loop-child
invariant-defend-loop-child g l = record {
  goes_on : GoesOn l.fn.run l.run;
  mated : MatedEvasions (known_of l.run.facts) l.position l.child-items l.child-index l.within l.high;
  quiet : StaysQuiet l.fn.run.made l.run.made (g.T.Stop.signal l.fn.stop) (g.T.Stop.signal l.stop);
}
