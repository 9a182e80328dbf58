use Rattle.std.proofs.Common.{IfOk, sym, subst}
use Rattle.mate_facts.specs.Entries.{positions_of}
use Rattle.dominance_places.specs.declared.covering.CoverPlaces.{CoverPlaces}
use Rattle.dominance_places.specs.Covering.{AreCoverPlacesOf, version_of}
use Rattle.dominance_places.specs.Found.{IsFoundCovered}
use Rattle.dominance_places.proofs.Same.{found_same}
use Rattle.dominance_places.proofs.covering.CoverPlaces.least_covered.Goals as goal

pub returns-in-Same : goal.returns-in-Same
returns-in-Same c =
    let are = subst (λ (places : CoverPlaces). AreCoverPlacesOf places (positions_of c.args.entries.now)) c.in-Same.is c.requires in
    subst (λ (places : CoverPlaces). IsFoundCovered (version_of places) c.args.entries.now c.args.attacker c.args.position.now c.find.result) (sym c.in-Same.is)
    (found_same c.args.entries.now c.args.attacker c.args.position.now c.find.result are.apart (c.find.ensures (positions_of c.args.entries.now) are))

pub returns-in-Boards : goal.returns-in-Boards
returns-in-Boards c =
    subst (λ (places : CoverPlaces). IfOk c.least_dominated.result (IsFoundCovered (version_of places) c.args.entries.now c.args.attacker c.args.position.now))
    (sym c.in-Boards.is) c.least_dominated.ensures
