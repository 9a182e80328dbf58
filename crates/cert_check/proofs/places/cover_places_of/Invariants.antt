use Rattle.std.proofs.Common.{◌≡◌, take, map}
use Rattle.dominance_places.specs.Covering.{AreCoverPlacesOf, version_of}
use Rattle.cert_check.proofs.places.cover_places_of.Given as goal

abbrev pub invariant-loop-entry : goal.invariant-loop-entry
invariant-loop-entry g l =
    (version_of l.places ≡ l.certificate.version)
    × AreCoverPlacesOf l.places (take l.entry-index (map (g.E.Entry.form l.certificate.problem).at l.entry-items))
