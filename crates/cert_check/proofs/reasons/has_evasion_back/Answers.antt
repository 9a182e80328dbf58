use Rattle.std.proofs.Common.{arith, sym, subst, refl}
use Rattle.board_core.specs.Order.{Lists}
use Rattle.board_core.specs.declared.moves.Move.{Move}
use Rattle.shogi_rules.specs.Rules.{after}
use Rattle.shogi_rules.specs.Tsume.{IsEvasion}
use Rattle.hand_dominance.specs.BorneOut.{IsCovered}
use Rattle.dominance_places.specs.Covering.{version_of}
use Rattle.cert_check.proofs.Covered.{covers_itself}
use Rattle.cert_check.proofs.Listing.{held_at}
use Rattle.list_laws.proofs.Standing.{each_more}
use Rattle.cert_check.proofs.Entries.{answered_into, none_answered}
use Rattle.cert_check.proofs.reasons.has_evasion_back.Goals as goal

pub key_after-requires-clause-legal : goal.key_after-requires-clause-legal
key_after-requires-clause-legal c =
    (held_at (IsEvasion c.args.problem.now.position.side c.apply-checked.result) c.as_slice-evasion-items.result.now
    (subst (Lists (IsEvasion c.args.problem.now.position.side c.apply-checked.result)) (sym c.as_slice-evasion-items.ensures.moves) c.in_ok-answers_into.ensures)
    c.loop-evasion.evasion-index c.evasion-item.result (omega arith) c.evasion-item.is).legal

pub returns-in-Some : goal.returns-in-Some
returns-in-Some c =
    let next = after c.apply-checked.result c.evasion-item.result in (
      (λ _. answered_into (version_of c.args.places.now) c.args.positions.now c.args.problem.now.position.side c.args.position.now c.apply-checked.result
          next c.args.check c.evasion-item.result c.apply-checked.ensures.position refl
          (held_at (IsEvasion c.args.problem.now.position.side c.apply-checked.result) c.as_slice-evasion-items.result.now
          (subst (Lists (IsEvasion c.args.problem.now.position.side c.apply-checked.result)) (sym c.as_slice-evasion-items.ensures.moves) c.in_ok-answers_into.ensures)
          c.loop-evasion.evasion-index c.evasion-item.result (omega arith) c.evasion-item.is)
          (covers_itself c.listing_laws.ensures.covers (version_of c.args.places.now) c.args.positions.now c.args.problem.now.position.side next
          c.find_key.result c.in-Some.field-0 c.in-Some.is
          (c.find_key.ensures c.args.positions.now next c.requires.places c.key_after.ensures.kept c.key_after.ensures.key))),
      (λ _. refl),
    )

pub apply-requires-clause-legal : goal.apply-requires-clause-legal
apply-requires-clause-legal c =
    (held_at (IsEvasion c.args.problem.now.position.side c.apply-checked.result) c.as_slice-evasion-items-2.result.now
    (subst (Lists (IsEvasion c.args.problem.now.position.side c.apply-checked.result)) (sym c.as_slice-evasion-items-2.ensures.moves) c.in_ok-answers_into.ensures)
    c.loop-evasion-2.evasion-index c.evasion-item-in-loop-evasion-2.result (omega arith) c.evasion-item-in-loop-evasion-2.is).legal

pub returns-then-branch : goal.returns-then-branch
returns-then-branch c = (
  (λ _. answered_into (version_of c.args.places.now) c.args.positions.now c.args.problem.now.position.side c.args.position.now c.apply-checked.result
      c.apply.result c.args.check c.evasion-item-in-loop-evasion-2.result c.apply-checked.ensures.position c.apply.ensures.position
      (held_at (IsEvasion c.args.problem.now.position.side c.apply-checked.result) c.as_slice-evasion-items-2.result.now
      (subst (Lists (IsEvasion c.args.problem.now.position.side c.apply-checked.result)) (sym c.as_slice-evasion-items-2.ensures.moves) c.in_ok-answers_into.ensures)
      c.loop-evasion-2.evasion-index c.evasion-item-in-loop-evasion-2.result (omega arith) c.evasion-item-in-loop-evasion-2.is)
      (subst (λ side. IsCovered (version_of c.args.places.now) c.args.positions.now side c.apply.result)
      c.attacker-attacker.ensures (c.in_ok-is_covered.ensures.0 c.if-branch.true))),
  (λ _. refl),
)

pub loop-evasion-2-preserved : goal.loop-evasion-2-preserved
loop-evasion-2-preserved c =
    each_more (λ (a : Move). IsCovered (version_of c.args.places.now) c.args.positions.now c.args.problem.now.position.side (after c.apply-checked.result a) → ⊥)
    c.as_slice-evasion-items-2.result.now c.loop-evasion-2.evasion-index c.evasion-item-in-loop-evasion-2.result (omega arith) c.evasion-item-in-loop-evasion-2.is
    (λ covered. let e = c.in_ok-is_covered.ensures.1
    (subst (λ side. IsCovered (version_of c.args.places.now) c.args.positions.now side c.apply.result) (sym c.attacker-attacker.ensures)
    (subst (IsCovered (version_of c.args.places.now) c.args.positions.now c.args.problem.now.position.side) (sym c.apply.ensures.position) covered)) in cc)
    c.loop-evasion-2.invariant

pub returns : goal.returns
returns c = (
  (λ e. absurd (cc)),
  (λ w. absurd (none_answered (version_of c.args.places.now) c.args.positions.now c.args.problem.now.position.side c.args.position.now c.apply-checked.result c.args.check
      c.as_slice-evasion-items-2.result.now c.loop-evasion-2.evasion-index c.apply-checked.ensures.position
      (subst (Lists (IsEvasion c.args.problem.now.position.side c.apply-checked.result)) (sym c.as_slice-evasion-items-2.ensures.moves) c.in_ok-answers_into.ensures)
      (omega arith) c.loop-evasion-2.invariant w)),
)
