use Rattle.std.proofs.Common.{◌≡◌, vec_len}
use Rattle.endings.proofs.running.stops_at.Given as goal

abbrev pub invariant-loop-worker : goal.invariant-loop-worker
invariant-loop-worker l = vec_len l.stops ≡ l.worker
