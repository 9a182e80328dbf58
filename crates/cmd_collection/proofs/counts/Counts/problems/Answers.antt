use Rattle.cmd_collection.proofs.Totals.{problems_are}
use Rattle.cmd_collection.proofs.counts.Counts.problems.Goals as goal

pub returns-clause-all : goal.returns-clause-all
returns-clause-all c = λ reports are. problems_are reports c.args.self.now are
