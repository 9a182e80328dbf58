use Rattle.std.proofs.Common.{◌≡◌, vec_len}
use Rattle.program_tests.proofs.runs.stopped.deadlines.Given as goal

abbrev pub invariant-loop : goal.invariant-loop
invariant-loop l = vec_len l.stops ≡ l.counter
