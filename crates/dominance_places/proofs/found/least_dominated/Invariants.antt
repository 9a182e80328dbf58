use Rattle.dominance_places.proofs.Among.{Among}
use Rattle.dominance_places.proofs.found.least_dominated.Given as goal

abbrev pub invariant-loop-place : goal.invariant-loop-place
invariant-loop-place l = Among l.attacker l.entries l.position l.place-items l.place-index l.best
