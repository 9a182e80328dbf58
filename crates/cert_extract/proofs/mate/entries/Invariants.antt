use Rattle.std.proofs.Common.{◌≤◌, length, map}
use Rattle.mate_facts.specs.Entries.{positions_of}
use Rattle.position_places.specs.Places.{ArePlacesOf}
use Rattle.cert_extract.proofs.Trees.{weight}
use Rattle.cert_extract.proofs.Mates.{IsMateWalk}
use Rattle.cert_extract.proofs.Walked.{MatesWalked}
use Rattle.cert_extract.proofs.mate.entries.Given as goal

abbrev pub invariant-loop-next : goal.invariant-loop-next
invariant-loop-next l = record {
  places : ArePlacesOf l.places (positions_of l.entries.items);
  walk : IsMateWalk l.fn.version l.problem.position l.note l.entries.items (map (λ n. n.now) l.pending.items);
  walked : MatesWalked l.note l.entries.items (map (λ n. n.now) l.pending.items);
  few : length l.entries.items ≤ l.most;
}

abbrev pub decreases-loop-next : goal.decreases-loop-next
decreases-loop-next l = weight (map (λ n. n.now) l.pending.items)
