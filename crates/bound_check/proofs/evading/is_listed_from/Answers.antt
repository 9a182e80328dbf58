use Rattle.std.proofs.Common.{le-leb, leb-true}
use Rattle.bound_check.proofs.Listed.{listed_at}
use Rattle.bound_check.proofs.evading.is_listed_from.Goals as goal

pub returns-in-Some : goal.returns-in-Some
returns-in-Some c =
    let at = listed_at c.args.entries.now c.in-Some.place c.args.least c.args.position.now c.index-entries-place.result c.requires.apart
    (c.in-Some.ensures _ c.requires) c.index-entries-place.is in
    ((λ t. at.0 (leb-true _ _ t)), (λ l. le-leb _ _ (at.1 l)))
