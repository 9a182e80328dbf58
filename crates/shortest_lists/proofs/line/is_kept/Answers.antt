use Rattle.std.proofs.Common.{◌-◌, arith}
use Rattle.std.proofs.lemmas.Bool.{leb-true, le-leb}
use Rattle.shortest_lists.proofs.Finding.{listed_there, number_there}
use Rattle.shortest_lists.proofs.line.is_kept.Goals as goal

pub returns-in-Some : goal.returns-in-Some
returns-in-Some c = (
  (λ t some. listed_there c.args.bound.now.entries c.entries.result.now c.in-Some.place c.args.position.now c.index-entries-place.result
      c.entries.ensures.entries (c.in-Some.ensures _ c.requires) (c.args.rank - 1) (leb-true _ _ t)),
  (λ kept. le-leb _ _ (number_there c.args.bound.now.entries c.entries.result.now c.in-Some.place c.args.position.now c.index-entries-place.result
      c.entries.ensures.entries (c.in-Some.ensures _ c.requires) c.requires.apart (c.args.rank - 1) (kept (omega arith)))),
)
