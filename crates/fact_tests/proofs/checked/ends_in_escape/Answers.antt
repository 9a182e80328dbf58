use Rattle.std.proofs.Common.{arith}
use Rattle.fact_tests.proofs.checked.ends_in_escape.Goals as goal

pub returns : goal.returns
returns c = λ ends. record {
  turn = c.is_attackers.ensures (cc);
  no_check = λ check is. absurd (
      let inside = (c.in_ok-checks.ensures.complete check is).1 in
      let len = c.len.ensures in
      let none = c.if-len-gt0.false in
      omega (arith, inside, len, none)
      );
}
