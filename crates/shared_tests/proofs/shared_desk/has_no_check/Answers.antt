use Rattle.std.proofs.Common.{arith, refl}
use Rattle.shared_tests.proofs.shared_desk.has_no_check.Goals as goal

pub returns : goal.returns
returns c = λ t. record {
  turn = refl;
  no_check = λ check h.
      let held = c.in_ok-checks.ensures.complete check h in
      let within = held.1 in let o = c.in_ok-checks.checks.ok in let none = c.if-len-gt0.false in let len = c.len.ensures in absurd (omega (arith, within, o, none, len));
}
