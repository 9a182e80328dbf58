use Rattle.std.proofs.Common.{sym, arith}
use Rattle.problem_gen.proofs.Drawing.{drawn-first, drawn-next}
use Rattle.problem_gen.proofs.draws.drawn.Goals as goal

pub loop-done-init : goal.loop-done-init
loop-done-init c = record { drawn = sym (drawn-first c.args.number); below = omega arith }

pub loop-done-preserved : goal.loop-done-preserved
loop-done-preserved c = record { drawn = rw (drawn-next c.args.number c.loop-done._done, c.loop-done.invariant.drawn); below = omega arith }
