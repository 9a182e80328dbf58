use Rattle.std.proofs.Common.{refl}
use Rattle.search_pool.proofs.watched.WatchedPort.leave.Goals as goal

pub returns-clause-turn : goal.returns-clause-turn
returns-clause-turn g c = λ path. (refl, refl, (c.leave.ensures.turn path, refl))
