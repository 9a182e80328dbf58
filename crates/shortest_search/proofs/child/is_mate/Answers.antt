use Rattle.shortest_search.proofs.Listed.{none_listed}
use Rattle.shortest_search.proofs.child.is_mate.Goals as goal

pub returns : goal.returns
returns c = λ empty evasion is. none_listed _ _ _ c.in_ok-answers.ensures c.len-2.ensures empty evasion is
