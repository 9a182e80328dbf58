use Rattle.mate_def.proofs.Laws.{one_has_rank, rank_has_one}
use Rattle.mate_def.proofs.rank_one.Goals as goal

pub returns : goal.returns
returns c = λ attacker b. ((λ m. one_has_rank attacker b m), (λ h. rank_has_one attacker b h))
