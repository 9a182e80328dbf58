use Rattle.std.proofs.Common.{◌≡◌}
use Rattle.shortest_facts.specs.Keys.{known_of}
use Rattle.shortest_search.proofs.Attacking.{LastsFrom}
use Rattle.shortest_search.proofs.visiting.attack_once.Given as goal

abbrev pub invariant-loop-check : goal.invariant-loop-check
invariant-loop-check l = record {
  same : l.run ≡ l.fn.run;
  lasts : LastsFrom (known_of l.run.facts) l.position l.check-items l.check-index l.low;
}
