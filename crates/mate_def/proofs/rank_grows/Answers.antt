use Rattle.mate_def.proofs.Laws.{rank_grows_to}
use Rattle.mate_def.proofs.rank_grows.Goals as goal

pub returns : goal.returns
returns c = λ attacker n m b up h. rank_grows_to attacker n m b up h
