use Rattle.std.proofs.Common.{◌≡◌, vec_len}
use Rattle.tsume_app.proofs.telling.heard_stops.Given as goal

abbrev pub invariant-loop-worker : goal.invariant-loop-worker
invariant-loop-worker g l = vec_len l.stops ≡ l._worker
