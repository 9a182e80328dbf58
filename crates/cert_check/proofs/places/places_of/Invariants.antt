use Rattle.std.proofs.Common.{take, map}
use Rattle.position_places.specs.Places.{ArePlacesOf}
use Rattle.cert_check.proofs.places.places_of.Given as goal

abbrev pub invariant-loop-entry : goal.invariant-loop-entry
invariant-loop-entry g l = ArePlacesOf l.places (take l.entry-index (map (g.E.Entry.form l.certificate.problem).at l.entry-items))
