use Rattle.std.proofs.Common.{subst}
use Rattle.search_pool.specs.declared.end.SearchEnd.{SearchEnd}
use Rattle.search_pool.specs.End.{HeedsStop}
use Rattle.shortest_mate.proofs.first.search_first.Goals as goal

pub returns-in-Ok-clause-heeds : goal.returns-in-Ok-clause-heeds
returns-in-Ok-clause-heeds g c =
    let before = g.T.Stop.signal c.args.stop.now in
    let after_it = g.T.Stop.signal c.search_alone_counted.new.stop in
    c.answered.ensures.quiet before after_it (subst (λ (end : SearchEnd). HeedsStop before after_it end) c.in-Solved.is c.in_ok-end.ensures.heeds)
