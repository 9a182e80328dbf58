use Rattle.play_line.proofs.Listed.{rank_found}
use Rattle.play_line.proofs.finding.rank_after.Goals as goal

pub returns : goal.returns
returns c =
    rank_found c.args.certificate.now c.args.attacker c.apply.result _ c.entries.result.now c.in_ok-place.place c.index-entries-place.result
    c.entries.ensures.entries c.apply.ensures.position c.in_ok-place.ensures c.index-entries-place.is
