use Rattle.std.proofs.Common.{rules, ◌≡◌, arith}
use Rattle.std.proofs.lemmas.Grind.{common_steps}
use Rattle.search_tests.proofs.table.escapes.ends_in_escape.Goals as goal

pub returns : goal.returns
returns c = λ t.
    let turn : c.args.position.now.side ≡ c.args.problem.now.position.side = first_of (search rules, grind (arith, common_steps)) in
    record {
      turn = turn;
      no_check = λ check h.
          let held = c.in_ok-checks.ensures.complete check h in
          let within = held.1 in let o = c.in_ok-checks.checks.ok in absurd (omega (arith, within, o));
    }
