use Rattle.std.proofs.Common.{◌≡◌, vec_len}
use Rattle.crew_tests.proofs.crews.stops_at.Given as goal

abbrev pub invariant-loop-worker : goal.invariant-loop-worker
invariant-loop-worker l = vec_len l.stops ≡ l._worker
