use Rattle.shortest_facts.specs.Keys.{known_of}
use Rattle.shortest_mate.proofs.Faster.{faster_on, all_faster, evasion_at}
use Rattle.shortest_mate.proofs.learning.is_known_faster.Goals as goal

pub apply-requires-clause-legal : goal.apply-requires-clause-legal
apply-requires-clause-legal c =
    (evasion_at c.args.problem.now.position.side c.apply-checked.result c.in_ok-evasions.evasions c.as_slice-evasion-items.result.now c.loop-evasion.evasion-index
    c.evasion-item.result c.in_ok-evasions.ensures c.as_slice-evasion-items.ensures.moves c.loop-evasion-test.true c.evasion-item.is).legal

pub loop-evasion-preserved : goal.loop-evasion-preserved
loop-evasion-preserved c =
    faster_on (known_of c.args.facts.now) c.apply-checked.result c.apply.result c.args.most c.as_slice-evasion-items.result.now c.loop-evasion.evasion-index
    c.evasion-item.result c.fact.result c.loop-evasion.invariant c.evasion-item.is c.apply.ensures.position c.fact.ensures c.if-fact-most.false

pub returns : goal.returns
returns c = λ same.
    all_faster (known_of c.args.facts.now) c.args.problem.now.position.side c.apply-checked.result _ c.args.most c.in_ok-evasions.evasions c.as_slice-evasion-items.result.now
    c.loop-evasion.evasion-index c.requires.same c.in_ok-evasions.ensures c.as_slice-evasion-items.ensures.moves c.loop-evasion-test.false c.apply-checked.ensures.position
    c.loop-evasion.invariant
