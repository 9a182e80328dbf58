use Rattle.std.proofs.Common.{◌∙◌, sym, ap, subst, arith}
use Rattle.board_core.specs.Board.{Board}
use Rattle.shogi_rules.specs.Tsume.{IsEvasion}
use Rattle.shortest_facts.specs.Keys.{known_of}
use Rattle.shortest_search.specs.declared.run.Run.{Run}
use Rattle.shortest_search.proofs.Attacking.{check_at, first_evasion, once_on, once_evaded, once_longer, no_evasion}
use Rattle.shortest_search.proofs.visiting.attack_once.Goals as goal

pub apply-next-requires-clause-legal : goal.apply-next-requires-clause-legal
apply-next-requires-clause-legal c =
    (check_at (known_of c.loop-check.run.facts).attacker c.args.problem.now.position.side c.args.position.now c.in_ok-listed.listed c.as_slice-check-items.result.now c.loop-check.check-index c.check-item.result
    (ap (λ (r : Run). (known_of r.facts).attacker) c.loop-check.invariant.same ∙ c.requires.same) c.in_ok-listed.ensures c.as_slice-check-items.ensures.moves c.loop-check-test.true c.check-item.is).legal

pub mates-requires-clause-is_check : goal.mates-requires-clause-is_check
mates-requires-clause-is_check c =
    check_at (known_of c.loop-check.run.facts).attacker c.args.problem.now.position.side c.args.position.now c.in_ok-listed.listed c.as_slice-check-items.result.now c.loop-check.check-index c.check-item.result
    (ap (λ (r : Run). (known_of r.facts).attacker) c.loop-check.invariant.same ∙ c.requires.same) c.in_ok-listed.ensures c.as_slice-check-items.ensures.moves c.loop-check-test.true c.check-item.is

pub mates-requires-clause-faster : goal.mates-requires-clause-faster
mates-requires-clause-faster c = λ evasion is.
    absurd (no_evasion (known_of c.loop-check.run.facts).attacker c.args.problem.now.position.side c.apply-next.result c.answers_into.new.moves c.len.result evasion
    (ap (λ (r : Run). (known_of r.facts).attacker) c.loop-check.invariant.same ∙ c.requires.same) c.in_ok-answers_into.ensures c.len.ensures c.if-len-eq0.true
    (subst (λ (x : Board). IsEvasion (known_of c.loop-check.run.facts).attacker x evasion) (sym c.apply-next.ensures.position) is))

pub loop-check-preserved : goal.loop-check-preserved
loop-check-preserved c = record {
  same = c.loop-check.invariant.same;
  lasts =
      once_on (known_of c.loop-check.run.facts) c.args.position.now c.apply-next.result c.as_slice-check-items.result.now c.loop-check.check-index c.loop-check.low c.fact.result.least c.max.result c.min-low.result
      c.check-item.result c.loop-check.invariant.lasts c.loop-check-test.true c.check-item.is c.apply-next.ensures.position
      (first_evasion (known_of c.loop-check.run.facts).attacker c.args.problem.now.position.side c.args.position.now c.apply-next.result c.check-item.result c.answers_into.new.moves
      (ap (λ (r : Run). (known_of r.facts).attacker) c.loop-check.invariant.same ∙ c.requires.same) c.apply-next.ensures.position c.in_ok-answers_into.ensures (let e = c.len.ensures in let n = c.if-len-eq0.false in omega (arith, e, n)))
      (ap (λ f. f.least) c.fact.ensures) c.max.ensures c.min-low.ensures;
}

pub takes-requires-clause-evaded : goal.takes-requires-clause-evaded
takes-requires-clause-evaded c = λ more.
    once_evaded (known_of c.loop-check.run.facts) c.args.problem.now.position.side c.args.position.now c.in_ok-listed.listed c.as_slice-check-items.result.now c.loop-check.check-index c.loop-check.low
    (ap (λ (r : Run). (known_of r.facts).attacker) c.loop-check.invariant.same ∙ c.requires.same) c.in_ok-listed.ensures c.as_slice-check-items.ensures.moves c.loop-check-test.false c.loop-check.invariant.lasts

pub takes-requires-clause-longer : goal.takes-requires-clause-longer
takes-requires-clause-longer c = λ more.
    once_longer (known_of c.loop-check.run.facts) c.args.problem.now.position.side c.args.position.now c.in_ok-listed.listed c.as_slice-check-items.result.now c.loop-check.check-index c.loop-check.low c.next_length.result
    (ap (λ (r : Run). (known_of r.facts).attacker) c.loop-check.invariant.same ∙ c.requires.same) c.in_ok-listed.ensures c.as_slice-check-items.ensures.moves c.loop-check-test.false c.loop-check.invariant.lasts c.next_length.ensures more
