use Rattle.std.proofs.Common.{◌≡◌}
use Rattle.shortest_facts.specs.Facts.{AreBorneOut}
use Rattle.shortest_facts.specs.Keys.{known_of}
use Rattle.shortest_mate.proofs.learning.learn.Given as goal

abbrev pub invariant-loop-ranked : goal.invariant-loop-ranked
invariant-loop-ranked l = record {
  same : (known_of l.facts).attacker ≡ l.problem.position.side;
  borne_out : AreBorneOut (known_of l.facts);
}
