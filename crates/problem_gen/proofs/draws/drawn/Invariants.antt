use Rattle.std.proofs.Common.{◌≡◌, ◌<◌}
use Rattle.problem_gen.specs.Draws.{drawn}
use Rattle.problem_gen.proofs.draws.drawn.Given as goal

abbrev pub invariant-loop-done : goal.invariant-loop-done
invariant-loop-done l = record { drawn : l.x ≡ drawn l.number l._done; below : l.x < 2147483647 }
