use Rattle.cert_extract.proofs.Grown.{IsListingSet}
use Rattle.cert_extract.proofs.leaf.list_set.Given as goal

abbrev pub invariant-loop-position : goal.invariant-loop-position
invariant-loop-position l = IsListingSet l.set l.most l.fn.positions.items l.position-index l.places l.positions.items
