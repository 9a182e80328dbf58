use Rattle.std.proofs.Common.{List, OnOk, sym, subst}
use Rattle.board_core.specs.Board.{Board}
use Rattle.position_places.specs.Places.{ArePlacesOf, IsWith}
use Rattle.dominance_places.specs.declared.covering.CoverPlaces.{CoverPlaces}
use Rattle.dominance_places.specs.Covering.{AreBothPlacesOf, AreCoverPlacesOf}
use Rattle.dominance_places.proofs.covering.CoverPlaces.add.Goals as goal

pub returns-in-Same-clause-added : goal.returns-in-Same-clause-added
returns-in-Same-clause-added c =
    subst (λ (places : CoverPlaces). OnOk c.add.result ((positions longer : List Board) → AreCoverPlacesOf places positions
    → IsWith positions c.args.position.now longer → ArePlacesOf c.add.new.self longer)) (sym c.in-Same.is) c.add.ensures.added

pub returns-in-Boards-clause-added : goal.returns-in-Boards-clause-added
returns-in-Boards-clause-added c =
    subst (λ (places : CoverPlaces). OnOk c.add_to_both.result ((positions longer : List Board) → AreCoverPlacesOf places positions
    → IsWith positions c.args.position.now longer → AreBothPlacesOf c.add_to_both.new.boards c.add_to_both.new.by_key longer)) (sym c.in-Boards.is) c.add_to_both.ensures.added
