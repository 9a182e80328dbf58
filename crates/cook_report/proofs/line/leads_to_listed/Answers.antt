use Rattle.std.proofs.Common.{List, arith, refl, sym, subst}
use Rattle.std.specs.Prelude.{is_some}
use Rattle.mate_facts.specs.declared.entry.MateEntry.{MateEntry}
use Rattle.mate_facts.specs.Entries.{positions_of}
use Rattle.list_laws.proofs.Standing.{each_more}
use Rattle.board_core.specs.declared.moves.Move.{Move}
use Rattle.shogi_rules.specs.Rules.{after}
use Rattle.hand_dominance.specs.BorneOut.{CoversListed}
use Rattle.dominance_places.specs.Covering.{AreCoverPlacesOf}
use Rattle.cook_report.proofs.Heard.{led_all, evasion_at, covers_there, covers_none, not_none, not_some, places_kept}
use Rattle.cook_report.proofs.line.leads_to_listed.Goals as goal

pub loop-evasion-init : goal.loop-evasion-init
loop-evasion-init c = record {
  version = c.in_ok-places.ensures.version;
  places = subst (λ (es : List MateEntry). AreCoverPlacesOf c.in_ok-places.places (positions_of es)) (sym c.entries-entries.ensures.entries) c.in_ok-places.ensures.places;
  led = λ k a low at. absurd (omega (arith, low));
}

pub apply-next-requires-clause-legal : goal.apply-next-requires-clause-legal
apply-next-requires-clause-legal c =
    (evasion_at c.args.problem.now.position.side c.args.checked.now c.as_slice-evasion-items.result.now c.in_ok-evasions.evasions c.loop-evasion.evasion-index
    c.evasion-item.result c.in_ok-evasions.ensures c.as_slice-evasion-items.ensures.moves (omega arith) c.evasion-item.is).legal

pub least_covered-requires : goal.least_covered-requires
least_covered-requires c = c.loop-evasion.invariant.places

pub returns-then-is_none-clause-led : goal.returns-then-is_none-clause-led
returns-then-is_none-clause-led c =
    let attacker = c.args.problem.now.position.side in
    let its = c.args.certificate.now in (
      (λ e. absurd (cc)),
      (λ led. absurd (covers_none _ its.version _ its.entries _ attacker _ (after c.args.checked.now c.evasion-item.result) c.in_ok-covered.covered
          c.loop-evasion.invariant.version c.entries-entries.ensures.entries c.attacker-attacker.ensures c.apply-next.ensures.position c.in_ok-covered.ensures
          (not_some (is_some c.in_ok-covered.covered) c.is_none.result c.is_none.ensures c.if-is_none.true)
          (led c.evasion-item.result
          (evasion_at attacker c.args.checked.now c.as_slice-evasion-items.result.now c.in_ok-evasions.evasions c.loop-evasion.evasion-index
          c.evasion-item.result c.in_ok-evasions.ensures c.as_slice-evasion-items.ensures.moves (omega arith) c.evasion-item.is)))),
    )

pub returns-then-is_none-clause-kept : goal.returns-then-is_none-clause-kept
returns-then-is_none-clause-kept c =
    places_kept _ c.args.certificate.now.entries c.entries-entries.result.now c.entries-entries.ensures.entries c.loop-evasion.invariant.places

pub loop-evasion-preserved : goal.loop-evasion-preserved
loop-evasion-preserved c =
    let attacker = c.args.problem.now.position.side in
    let its = c.args.certificate.now in
    record {
      version = c.loop-evasion.invariant.version;
      places = c.loop-evasion.invariant.places;
      led = each_more (λ (a : Move). CoversListed its.version its.entries attacker (after c.args.checked.now a)) c.as_slice-evasion-items.result.now
          c.loop-evasion.evasion-index c.evasion-item.result (omega arith) c.evasion-item.is
          (covers_there _ its.version _ its.entries _ attacker _ (after c.args.checked.now c.evasion-item.result) c.in_ok-covered.covered
          c.loop-evasion.invariant.version c.entries-entries.ensures.entries c.attacker-attacker.ensures c.apply-next.ensures.position c.in_ok-covered.ensures
          (not_none (is_some c.in_ok-covered.covered) c.is_none.result c.is_none.ensures c.if-is_none.false))
          c.loop-evasion.invariant.led;
    }

pub returns-clause-led : goal.returns-clause-led
returns-clause-led c = (
  (λ _. led_all c.args.problem.now.position.side c.args.checked.now c.args.certificate.now c.as_slice-evasion-items.result.now c.in_ok-evasions.evasions
      c.loop-evasion.evasion-index c.in_ok-evasions.ensures c.as_slice-evasion-items.ensures.moves (omega arith) c.loop-evasion.invariant.led),
  (λ _. refl),
)

pub returns-clause-kept : goal.returns-clause-kept
returns-clause-kept c =
    places_kept _ c.args.certificate.now.entries c.entries-entries.result.now c.entries-entries.ensures.entries c.loop-evasion.invariant.places
