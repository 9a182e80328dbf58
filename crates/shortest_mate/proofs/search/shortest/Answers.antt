use Rattle.std.proofs.Common.{subst}
use Rattle.std.proofs.lemmas.Result.{IfOk-weaker}
use Rattle.shortest_mate.specs.declared.first.First.{First}
use Rattle.shortest_mate.specs.First.{HeedsFirst}
use Rattle.shortest_mate.proofs.search.shortest.Goals as goal

pub returns-in-Answered-Escape-clause-finding : goal.returns-in-Answered-Escape-clause-finding
returns-in-Answered-Escape-clause-finding g c =
    IfOk-weaker c.escaped.result _ _ (λ found h. h c.args.expansions) c.escaped.ensures.finding

pub returns-in-Answered-Escape-clause-heeds : goal.returns-in-Answered-Escape-clause-heeds
returns-in-Answered-Escape-clause-heeds g c =
    let before = g.T.Stop.signal c.args.stop.now in
    let after_it = g.T.Stop.signal c.search_first.new.stop in
    IfOk-weaker c.escaped.result _ _
    (λ found h. h before after_it (subst (λ (first : First). HeedsFirst before after_it first) c.in-Answered-Escape.is c.in_ok-first.ensures.heeds))
    c.escaped.ensures.quiet
