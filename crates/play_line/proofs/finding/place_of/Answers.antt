use Rattle.play_line.proofs.Listed.{none_found}
use Rattle.play_line.proofs.finding.place_of.Goals as goal

pub unreachable-requires : goal.unreachable-requires
unreachable-requires c =
    none_found c.args.certificate.now.version _ c.args.certificate.now.entries c.entries.result.now c.args.attacker c.args.position.now c.in_ok-place.field-0
    c.requires.version c.entries.ensures.entries c.in-None.is c.in_ok-place.ensures c.requires.covers
