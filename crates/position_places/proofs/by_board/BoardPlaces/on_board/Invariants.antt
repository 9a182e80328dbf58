use Rattle.std.proofs.Common.{◌≡◌, ◌++◌}
use Rattle.std.specs.Map.{values_of}
use Rattle.position_places.proofs.by_board.BoardPlaces.on_board.Given as goal

abbrev pub invariant-loop-place : goal.invariant-loop-place
invariant-loop-place l = l.places.items ++ values_of l.place-iterator ≡ values_of l.initial.place-iterator
