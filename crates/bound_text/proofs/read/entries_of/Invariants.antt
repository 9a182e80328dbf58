use Rattle.std.proofs.Common.{length}
use Rattle.bound_text.specs.Scan.{HasReadSome}
use Rattle.bound_text.proofs.read.entries_of.Given as goal

abbrev pub invariant-loop-last : goal.invariant-loop-last
invariant-loop-last l = HasReadSome l.problem.position l.digits l.text l.entries.items l.rest l.last

abbrev pub decreases-loop-last : goal.decreases-loop-last
decreases-loop-last l = length l.rest
