use Rattle.std.proofs.Common.{◌≡◌, length}
use Rattle.wide_read.proofs.Cuts.{GoesOn}
use Rattle.wide_read.proofs.cutting.stretches_of.Given as goal

abbrev pub invariant-loop-lines : goal.invariant-loop-lines
invariant-loop-lines l = GoesOn (λ stretch lines. lines ≡ stretch.now) l.stretches.items l.rest l.text

abbrev pub decreases-loop-lines : goal.decreases-loop-lines
decreases-loop-lines l = length l.rest
