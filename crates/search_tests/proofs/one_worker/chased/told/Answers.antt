use Rattle.lone_port.specs.Lone.{worker_at_first}
use Rattle.search_tests.proofs.one_worker.chased.told.Goals as goal

pub learn-requires-clause-some : goal.learn-requires-clause-some
learn-requires-clause-some c = (worker_at_first c.args.problem.now.position 1, c.in_ok-port.ensures.suits 1)
