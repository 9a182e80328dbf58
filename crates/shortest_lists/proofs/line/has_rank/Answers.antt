use Rattle.std.proofs.lemmas.Bool.{eqb-true, eq-eqb}
use Rattle.shortest_lists.proofs.Finding.{rank_there, rank_only}
use Rattle.shortest_lists.proofs.line.has_rank.Goals as goal

pub returns-in-Some : goal.returns-in-Some
returns-in-Some c = (
  (λ t. rank_there c.entry_laws.ensures.found c.args.certificate.now c.entries.result.now c.in-Some.place c.args.position.now
      c.index-entries-place.result c.entries.ensures.entries (c.in-Some.ensures _ c.requires) c.index-entries-place.is c.args.rank (eqb-true _ _ t)),
  (λ at. eq-eqb _ _ (rank_only c.entry_laws.ensures.found c.args.certificate.now c.entries.result.now c.in-Some.place c.args.position.now
      c.index-entries-place.result c.entries.ensures.entries (c.in-Some.ensures _ c.requires) c.index-entries-place.is c.entry_laws.ensures.apart
      c.requires.apart c.args.rank at)),
)
