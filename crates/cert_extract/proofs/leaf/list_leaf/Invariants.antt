use Rattle.cert_extract.proofs.Grown.{IsListingLeaf}
use Rattle.cert_extract.proofs.leaf.list_leaf.Given as goal

abbrev pub invariant-loop-entry : goal.invariant-loop-entry
invariant-loop-entry l = IsListingLeaf l.set l.position l.rank l.most l.fn.entries.items l.entry-index l.places l.entries.items
