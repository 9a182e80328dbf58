use Rattle.shortest_search.proofs.Listed.{none_listed}
use Rattle.shortest_search.proofs.child.is_safe.Goals as goal

pub returns : goal.returns
returns c = λ empty check is. none_listed _ _ _ c.in_ok-checks.ensures c.len-2.ensures empty check is
