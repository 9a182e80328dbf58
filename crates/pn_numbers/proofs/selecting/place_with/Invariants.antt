use Rattle.std.proofs.Common.{◌≡◌, ◌≤◌, count_by, take}
use Rattle.pn_numbers.specs.Selection.{has_number}
use Rattle.pn_numbers.proofs.selecting.place_with.Given as goal

-- over the children so far
abbrev pub invariant-loop-place : goal.invariant-loop-place
invariant-loop-place l = (l.passed ≡ count_by (has_number l.node l.number) (take l.place l.children)) × (l.passed ≤ l.before)
