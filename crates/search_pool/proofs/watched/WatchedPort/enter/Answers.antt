use Rattle.std.proofs.Common.{refl}
use Rattle.search_pool.proofs.watched.WatchedPort.enter.Goals as goal

pub returns-clause-turn : goal.returns-clause-turn
returns-clause-turn g c = λ path. (refl, refl, (c.enter.ensures.turn path, refl))
