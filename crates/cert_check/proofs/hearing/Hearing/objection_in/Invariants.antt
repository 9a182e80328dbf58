use Rattle.std.proofs.Common.{◌<◌, ◌≤◌, ℕ}
use Rattle.cert_check.specs.Reasons.{EntryHolds}
use Rattle.cert_check.proofs.hearing.Hearing.objection_in.Given as goal

abbrev pub invariant-loop-place : goal.invariant-loop-place
invariant-loop-place l = (k : ℕ) → l.from ≤ k → k < l.place → EntryHolds l.self.certificate l.self.problem.side k
