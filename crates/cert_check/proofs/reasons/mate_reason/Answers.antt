use Rattle.std.proofs.Common.{arith, refl, sym, subst}
use Rattle.board_core.specs.Order.{Lists}
use Rattle.board_core.specs.declared.moves.Move.{Move}
use Rattle.bit_boards.specs.declared.piece.Side.{Side}
use Rattle.shogi_rules.specs.Rules.{after}
use Rattle.shogi_rules.specs.Tsume.{IsEvasion}
use Rattle.hand_dominance.specs.BorneOut.{CoversLower}
use Rattle.dominance_places.specs.Covering.{version_of}
use Rattle.cert_check.specs.Reached.{IsFoundFor}
use Rattle.cert_check.proofs.Listing.{held_at}
use Rattle.list_laws.proofs.Standing.{each_more}
use Rattle.cert_check.proofs.Entries.{first_against, borne_out}
use Rattle.cert_check.proofs.reasons.mate_reason.Goals as goal

pub covered_after-requires-clause-legal : goal.covered_after-requires-clause-legal
covered_after-requires-clause-legal c =
    (held_at (IsEvasion c.args.problem.now.position.side c.apply-checked.result) c.as_slice-evasion-items.result.now
    (subst (Lists (IsEvasion c.args.problem.now.position.side c.apply-checked.result)) (sym c.as_slice-evasion-items.ensures.moves) c.in_ok-answers_into.ensures)
    c.loop-evasion.evasion-index c.evasion-item.result (omega arith) c.evasion-item.is).legal

pub returns-in-Some : goal.returns-in-Some
returns-in-Some c =
    let next = after c.apply-checked.result c.evasion-item.result in
    first_against c.order_laws.ensures.places (version_of c.args.places.now) c.args.entries.now c.args.problem.now.position.side c.args.entry.now c.apply-checked.result
    (after c.apply-checked.result c.evasion-item.result) c.as_slice-evasion-items.result.now c.loop-evasion.evasion-index c.evasion-item.result c.in-Some.why
    c.apply-checked.ensures.position refl (c.is_check.ensures.0 c.if-not-is_check.false)
    (subst (Lists (IsEvasion c.args.problem.now.position.side c.apply-checked.result)) (sym c.as_slice-evasion-items.ensures.moves) c.in_ok-answers_into.ensures)
    (omega arith) c.evasion-item.is c.loop-evasion.invariant
    (c.in-Some.ensures (version_of c.args.places.now) c.args.problem.now.position.side next
    (subst (λ (side : Side). IsFoundFor (version_of c.args.places.now) c.args.entries.now side c.args.entry.now.rank.number next c.in_ok-covered.covered) c.attacker-attacker.ensures
    c.in_ok-covered.ensures.found))

pub loop-evasion-preserved : goal.loop-evasion-preserved
loop-evasion-preserved c =
    let next = after c.apply-checked.result c.evasion-item.result in
    each_more (λ (a : Move). CoversLower (version_of c.args.places.now) c.args.entries.now c.args.problem.now.position.side c.args.entry.now.rank.number (after c.apply-checked.result a))
    c.as_slice-evasion-items.result.now c.loop-evasion.evasion-index c.evasion-item.result (omega arith) c.evasion-item.is
    (c.in_default.ensures (version_of c.args.places.now) c.args.problem.now.position.side next
    (subst (λ (side : Side). IsFoundFor (version_of c.args.places.now) c.args.entries.now side c.args.entry.now.rank.number next c.in_ok-covered.covered) c.attacker-attacker.ensures
    c.in_ok-covered.ensures.found))
    c.loop-evasion.invariant

pub returns : goal.returns
returns c =
    borne_out (version_of c.args.places.now) c.args.entries.now c.args.problem.now.position.side c.args.entry.now c.apply-checked.result
    c.as_slice-evasion-items.result.now c.loop-evasion.evasion-index c.apply-checked.ensures.position (c.is_check.ensures.0 c.if-not-is_check.false)
    (subst (Lists (IsEvasion c.args.problem.now.position.side c.apply-checked.result)) (sym c.as_slice-evasion-items.ensures.moves) c.in_ok-answers_into.ensures)
    (omega arith) c.loop-evasion.invariant
