-- Where the positions of a list stand, found as a version asks.
use Rattle.std.specs.Prelude.{List, Option, IfSome}
use Rattle.board_core.specs.Board.{Board}
use Rattle.position_places.specs.Places.{ArePlacesOf, AreBoardPlacesOf}
use Rattle.position_places.specs.declared.by_board.BoardPlaces.{BoardPlaces}
use Rattle.position_places.specs.declared.places.Places.{Places}
use Rattle.hand_dominance.specs.declared.version.Version.{Version}
use Rattle.hand_dominance.specs.declared.version.Version.TheVariants.{One, Two}
use Rattle.dominance_places.specs.declared.covering.CoverPlaces.{CoverPlaces}
use Rattle.dominance_places.specs.declared.covering.CoverPlaces.TheVariants.{Same, Boards}

-- The version for which places are kept.
abbrev pub version_of : CoverPlaces → Version
version_of (Same places) = One
version_of (Boards boards by_key) = Two

-- The places by board are those of the positions of this list, in which none stands twice; and
-- so are those by key, where there are any.
abbrev pub AreBothPlacesOf : BoardPlaces → Option Places → List Board → Type 0
AreBothPlacesOf boards by_key positions = AreBoardPlacesOf boards positions × IfSome by_key (λ places. ArePlacesOf places positions)

-- The places are those of the positions of this list, in which none stands twice.
abbrev pub AreCoverPlacesOf : CoverPlaces → List Board → Type 0
AreCoverPlacesOf (Same places) positions = ArePlacesOf places positions
AreCoverPlacesOf (Boards boards by_key) positions = AreBothPlacesOf boards by_key positions
