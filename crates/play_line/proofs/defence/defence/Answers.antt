use Rattle.std.proofs.Common.{arith, refl, sym, subst}
use Rattle.std.specs.Prelude.{Option}
use Rattle.bit_boards.specs.declared.piece.Side.{Side}
use Rattle.board_core.specs.Order.{Lists}
use Rattle.shogi_rules.specs.Rules.{after}
use Rattle.shogi_rules.specs.Tsume.{IsEvasion}
use Rattle.hand_dominance.specs.BorneOut.{CoversListed}
use Rattle.play_line.specs.Line.{IsDefence}
use Rattle.play_line.specs.declared.defence.Lasting.{Lasting}
use Rattle.play_line.proofs.Listed.{rank_only}
use Rattle.play_line.proofs.Defending.{AreJudged, longest_more, judged, move_of, evasions_here, evasion_at}
use Rattle.play_line.proofs.defence.defence.Goals as goal

pub rank_after-requires-clause-legal : goal.rank_after-requires-clause-legal
rank_after-requires-clause-legal c =
    let lists = evasions_here c.args.problem.now.position.side c.args.checked.now c.in_ok-evasions.evasions c.as_slice-evasion-items.result.now c.as_slice-evasion-items.ensures.moves c.in_ok-evasions.ensures in
    let is_evasion = evasion_at c.args.problem.now.position.side c.args.checked.now c.as_slice-evasion-items.result.now lists c.loop-evasion.evasion-index c.evasion-item.result c.loop-evasion-test.true c.evasion-item.is in
    is_evasion.legal

pub rank_after-requires-clause-covers : goal.rank_after-requires-clause-covers
rank_after-requires-clause-covers c =
    let lists = evasions_here c.args.problem.now.position.side c.args.checked.now c.in_ok-evasions.evasions c.as_slice-evasion-items.result.now c.as_slice-evasion-items.ensures.moves c.in_ok-evasions.ensures in
    subst (λ (side : Side). CoversListed c.args.certificate.now.version c.args.certificate.now.entries side (after c.args.checked.now c.evasion-item.result))
    (sym c.attacker-attacker.ensures) (c.requires.covers c.evasion-item.result
    (evasion_at c.args.problem.now.position.side c.args.checked.now c.as_slice-evasion-items.result.now lists c.loop-evasion.evasion-index c.evasion-item.result c.loop-evasion-test.true c.evasion-item.is))

pub loop-evasion-preserved : goal.loop-evasion-preserved
loop-evasion-preserved c =
    let lists = evasions_here c.args.problem.now.position.side c.args.checked.now c.in_ok-evasions.evasions c.as_slice-evasion-items.result.now c.as_slice-evasion-items.ensures.moves c.in_ok-evasions.ensures in
    let lists = subst (λ (side : Side). Lists (IsEvasion side c.args.checked.now) c.as_slice-evasion-items.result.now) (sym c.attacker-attacker.ensures) lists in
    longest_more c.order_laws.ensures.places c.args.certificate.now c.attacker-attacker.result c.args.checked.now c.as_slice-evasion-items.result.now
    c.loop-evasion.evasion-index c.loop-evasion.longest _ c.evasion-item.result c.in_ok-rank.rank c.longer.result lists c.loop-evasion-test.true
    c.evasion-item.is (record { has = c.in_ok-rank.ensures; only = λ other at. rank_only c.args.certificate.now c.attacker-attacker.result _ _ other c.in_ok-rank.ensures at })
    refl c.longer.ensures c.loop-evasion.invariant

pub returns-in-None : goal.returns-in-None
returns-in-None c =
    let lists = evasions_here c.args.problem.now.position.side c.args.checked.now c.in_ok-evasions.evasions c.as_slice-evasion-items.result.now c.as_slice-evasion-items.ensures.moves c.in_ok-evasions.ensures in
    subst (λ (o : Option Lasting). IsDefence c.args.certificate.now c.args.problem.now.position.side c.args.checked.now (move_of o)) c.in-None.is
    (judged c.args.certificate.now c.args.problem.now.position.side c.args.checked.now c.as_slice-evasion-items.result.now c.loop-evasion.evasion-index
    c.loop-evasion.longest lists c.loop-evasion-test.false (omega arith)
    (subst (λ (side : Side). AreJudged c.args.certificate.now side c.args.checked.now c.as_slice-evasion-items.result.now c.loop-evasion.evasion-index c.loop-evasion.longest)
    c.attacker-attacker.ensures c.loop-evasion.invariant))

pub returns : goal.returns
returns c =
    let lists = evasions_here c.args.problem.now.position.side c.args.checked.now c.in_ok-evasions.evasions c.as_slice-evasion-items.result.now c.as_slice-evasion-items.ensures.moves c.in_ok-evasions.ensures in
    subst (λ (o : Option Lasting). IsDefence c.args.certificate.now c.args.problem.now.position.side c.args.checked.now (move_of o)) c.in-Some.is
    (judged c.args.certificate.now c.args.problem.now.position.side c.args.checked.now c.as_slice-evasion-items.result.now c.loop-evasion.evasion-index
    c.loop-evasion.longest lists c.loop-evasion-test.false (omega arith)
    (subst (λ (side : Side). AreJudged c.args.certificate.now side c.args.checked.now c.as_slice-evasion-items.result.now c.loop-evasion.evasion-index c.loop-evasion.longest)
    c.attacker-attacker.ensures c.loop-evasion.invariant))
