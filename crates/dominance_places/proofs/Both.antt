-- The places by board and by key of a list with one position more.
use Rattle.std.proofs.Common.{◌≡◌, List, OnOk, sym, subst}
use Rattle.std.specs.Prelude.{Option, Some, None, Result, Ok, Err, IfSome}
use Rattle.board_core.specs.Board.{Board}
use Rattle.position_places.specs.Places.{ArePlacesOf, AreBoardPlacesOf, IsWith}
use Rattle.position_places.specs.declared.by_board.BoardPlaces.{BoardPlaces}
use Rattle.position_places.specs.declared.places.Places.{Places}
use Rattle.dominance_places.specs.Covering.{AreBothPlacesOf}

-- The places by key, where there are any, are after a position those of the list with it.
abbrev pub KeepsUp : Board → Option Places → Option Places → Type 0
KeepsUp position old new = (positions longer : List Board) → IfSome old (λ places. ArePlacesOf places positions) → IsWith positions position longer
    → IfSome new (λ places. ArePlacesOf places longer)

pub kept_up : (position : Board) (old new : Option Places) (one other : Places) → old ≡ Some one → new ≡ Some other
    → ((positions longer : List Board) → ArePlacesOf one positions → IsWith positions position longer → ArePlacesOf other longer)
    → KeepsUp position old new
kept_up position old new one other was is added =
    subst (λ (o : Option Places). KeepsUp position o new) (sym was) (subst (KeepsUp position (Some one)) (sym is) added)

pub none_kept : (position : Board) (old new : Option Places) → old ≡ None → new ≡ old → KeepsUp position old new
none_kept position old new none same =
    subst (KeepsUp position old) (sym same) (subst (λ (o : Option Places). KeepsUp position o o) (sym none) (λ positions longer are with. tt))

pub both_added : {E T : Type 0} (r : Result T E) (position : Board) (boards more : BoardPlaces) (old new : Option Places)
    → OnOk r ((positions longer : List Board) → AreBoardPlacesOf boards positions → IsWith positions position longer → AreBoardPlacesOf more longer)
    → KeepsUp position old new
    → OnOk r ((positions longer : List Board) → AreBothPlacesOf boards old positions → IsWith positions position longer → AreBothPlacesOf more new longer)
both_added (Ok x) position boards more old new added up = λ positions longer are with. (added positions longer are.0 with, up positions longer are.1 with)
both_added (Err e) position boards more old new added up = added
