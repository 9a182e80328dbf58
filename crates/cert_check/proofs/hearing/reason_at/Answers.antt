use Rattle.dominance_places.specs.Covering as covering
use Rattle.cert_check.proofs.Verdicts.{mate_judged, mate_quiet, escape_judged, escape_quiet}
use Rattle.cert_check.proofs.hearing.reason_at.Goals as goal

pub mate_reason-requires-clause-quiet : goal.mate_reason-requires-clause-quiet
mate_reason-requires-clause-quiet c =
    mate_quiet c.args.certificate.now c.in-Mate.mate c.entries-entries.result.now c.args.place c.index-entries-place.result c.in-Mate.is
    c.entries-entries.ensures.entries c.requires.place c.index-entries-place.is c.entries-entries.ensures.kept

pub escape_reason-requires-clause-quiet : goal.escape_reason-requires-clause-quiet
escape_reason-requires-clause-quiet c =
    escape_quiet c.args.certificate.now c.in-Escape.escape c.entries-positions.result.now c.args.place c.index-positions-place.result
    c.in-Escape.is c.entries-positions.ensures.entries c.requires.place c.index-positions-place.is c.entries-positions.ensures.kept

pub returns-in-Mate : goal.returns-in-Mate
returns-in-Mate c =
    mate_judged c.args.certificate.now c.in-Mate.mate c.args.problem.now.position.side (covering.version_of c.args.places.now) c.entries-entries.result.now c.args.place
    c.index-entries-place.result c.mate_reason.result c.in-Mate.is c.requires.version c.entries-entries.ensures.entries c.requires.place c.index-entries-place.is
    c.mate_reason.ensures

pub returns-in-Escape : goal.returns-in-Escape
returns-in-Escape c =
    escape_judged c.args.certificate.now c.in-Escape.escape c.args.problem.now.position.side (covering.version_of c.args.places.now) c.entries-positions.result.now
    c.args.place c.index-positions-place.result c.escape_reason.result c.in-Escape.is c.requires.version c.entries-positions.ensures.entries c.requires.place
    c.index-positions-place.is c.escape_reason.ensures
