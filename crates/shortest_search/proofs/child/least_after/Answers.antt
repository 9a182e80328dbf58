use Rattle.std.proofs.Common.{inr}
use Rattle.shortest_search.proofs.child.least_after.Goals as goal

pub returns-then-branch : goal.returns-then-branch
returns-then-branch c = inr (c.in_ok-is_safe.ensures c.if-branch.true)
