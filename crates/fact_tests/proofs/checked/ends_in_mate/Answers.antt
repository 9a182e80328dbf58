use Rattle.std.proofs.Common.{arith}
use Rattle.fact_tests.proofs.checked.ends_in_mate.Goals as goal

pub returns : goal.returns
returns c = λ ends. record {
  turn = c.is_defender_in_check.ensures.turn (cc);
  in_check = c.is_defender_in_check.ensures.check (cc);
  no_evasion = λ evasion is. absurd (
      let inside = (c.in_ok-evasions.ensures.complete evasion is).1 in
      let len = c.len.ensures in
      let none = c.if-len-gt0.false in
      omega (arith, inside, len, none)
      );
}
