use Rattle.pn_numbers.specs.Selection.{number_at}
use Rattle.pn_numbers.specs.Leading.{IsLeading}
use Rattle.pn_numbers.proofs.selecting.leading.Given as goal

-- over the children so far
abbrev pub invariant-loop-place : goal.invariant-loop-place
invariant-loop-place l = IsLeading (number_at l.node l.children) l.place l.lead
