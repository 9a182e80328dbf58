use Rattle.std.proofs.Common.{inr, List, [], ◌∷◌, Contains, arith, refl, sym, subst}
use Rattle.board_core.specs.Board.{Board}
use Rattle.position_places.specs.Places.{AreBoardPlacesOf}
use Rattle.fact_tests.proofs.checked.dominates.Goals as goal

none : (b : Board) → ¬ Contains [] b
none b c = let inside = c.1 in omega (arith, inside)

pub is_dominated-requires : goal.is_dominated-requires
is_dominated-requires c =
    subst (AreBoardPlacesOf c.add.new.self) (sym c.from_ref.ensures.value)
    (c.in_ok-add.ensures.added [] (c.args.over.now ∷ []) c.new-boards.ensures (inr (none c.args.over.now, refl)))
