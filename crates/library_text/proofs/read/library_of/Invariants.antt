use Rattle.std.proofs.Common.{◌-◌, ◌≤◌, length}
use Rattle.library_text.specs.Reading.{HasRead}
use Rattle.library_text.proofs.read.library_of.Given as goal

abbrev pub invariant-loop-alloc : goal.invariant-loop-alloc
invariant-loop-alloc l = HasRead l.count l.certificates.items l.rest l.bytes × (length l.certificates.items ≤ l.count)

abbrev pub decreases-loop-alloc : goal.decreases-loop-alloc
decreases-loop-alloc l = l.count - length l.certificates.items
