use Rattle.cmd_check.specs.Asked.{check_in}
use Rattle.cmd_check.proofs.Promises.{failed_is}
use Rattle.cmd_check.proofs.asked.asked_problem.Goals as goal

pub returns-clause-failed : goal.returns-clause-failed
returns-clause-failed c = failed_is c.problem_laws.ensures (check_in c.args.asked.now) c.problem_in.result c.problem_in.ensures
