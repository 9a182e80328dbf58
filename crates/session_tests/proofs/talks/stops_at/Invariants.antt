use Rattle.std.proofs.Common.{◌≡◌, length}
use Rattle.session_tests.proofs.talks.stops_at.Given as goal

abbrev pub invariant-loop-worker : goal.invariant-loop-worker
invariant-loop-worker l = length l.stops.items ≡ l.worker
