use Rattle.std.proofs.Common.{◌<◌, ℕ}
use Rattle.unit_desk.specs.Known.{ReachesAt}
use Rattle.unit_desk.proofs.known.first_reaching.Given as goal

-- none of the notes so far reaches the problem
abbrev pub invariant-loop-place : goal.invariant-loop-place
invariant-loop-place l = (earlier : ℕ) → earlier < l.place → ¬ ReachesAt l.problem.position l.notes earlier
