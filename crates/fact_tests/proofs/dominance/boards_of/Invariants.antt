use Rattle.std.proofs.Common.{take, map}
use Rattle.position_places.specs.Places.{AreBoardPlacesOf}
use Rattle.fact_tests.proofs.dominance.boards_of.Given as goal

abbrev pub invariant-loop-entry : goal.invariant-loop-entry
invariant-loop-entry g l = AreBoardPlacesOf l.boards (take l.entry-index (map (g.E.Entry.form l.certificate.problem).at l.entry-items))
