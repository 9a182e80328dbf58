use Rattle.std.proofs.Common.{◌<◌, ℕ}
use Rattle.dominance_places.proofs.Listed.{IsBarAt}
use Rattle.dominance_places.proofs.found.is_dominated.Given as goal

abbrev pub invariant-loop-place : goal.invariant-loop-place
invariant-loop-place l = (k : ℕ) → k < l.place-index → IsBarAt l.attacker l.positions l.position l.place-items k
