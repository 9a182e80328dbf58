use Rattle.std.proofs.Common.{◌≡◌, take}
use Rattle.pn_numbers.specs.Combined.{least_of, sum_of}
use Rattle.pn_numbers.proofs.combining.combined.Given as goal

-- over the children so far
abbrev pub invariant-loop-child : goal.invariant-loop-child
invariant-loop-child l = (l.least ≡ least_of l.node (take l.child-index l.children)) × (l.sum ≡ sum_of l.node (take l.child-index l.children))
