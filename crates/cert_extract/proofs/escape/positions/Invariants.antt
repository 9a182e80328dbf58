use Rattle.std.proofs.Common.{◌≤◌, length, map}
use Rattle.position_places.specs.Places.{ArePlacesOf}
use Rattle.cert_extract.proofs.Trees.{weight}
use Rattle.cert_extract.proofs.Escapes.{IsEscapeWalk}
use Rattle.cert_extract.proofs.Walked.{SomeWalked}
use Rattle.cert_extract.proofs.escape.positions.Given as goal

abbrev pub invariant-loop-next : goal.invariant-loop-next
invariant-loop-next l = record {
  places : ArePlacesOf l.places l.positions.items;
  walk : IsEscapeWalk l.fn.version l.problem.position l.note l.positions.items (map (λ n. n.now) l.pending.items);
  walked : SomeWalked l.note l.positions.items (map (λ n. n.now) l.pending.items);
  few : length l.positions.items ≤ l.most;
}

abbrev pub decreases-loop-next : goal.decreases-loop-next
decreases-loop-next l = weight (map (λ n. n.now) l.pending.items)
