use Rattle.mate_def.proofs.Joining.{past_itself}
use Rattle.mate_def.proofs.escape_past_itself.Goals as goal

pub returns : goal.returns
returns c = λ attacker b t e. past_itself attacker b t e
