use Rattle.std.proofs.Common.{◌≡◌, ◌<◌, ℕ, get_or}
use Rattle.board_core.specs.declared.moves.Move.{Move}
use Rattle.shogi_rules.specs.Rules.{after}
use Rattle.mate_facts.specs.Entries.{positions_of}
use Rattle.hand_dominance.specs.BorneOut.{CoversListed}
use Rattle.dominance_places.specs.Covering.{AreCoverPlacesOf, version_of}
use Rattle.cook_report.proofs.line.leads_to_listed.Given as goal

abbrev pub invariant-loop-evasion : goal.invariant-loop-evasion
invariant-loop-evasion l = record {
  version : version_of l.places ≡ l.certificate.version;
  places : AreCoverPlacesOf l.places (positions_of l.entries);
  led : (k : ℕ) (a : Move) → k < l.evasion-index → get_or l.evasion-items k a ≡ a
      → CoversListed l.certificate.version l.certificate.entries l.problem.position.side (after l.checked a);
}
