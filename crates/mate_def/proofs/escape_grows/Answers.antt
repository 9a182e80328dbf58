use Rattle.mate_def.proofs.Joining.{into_more}
use Rattle.mate_def.proofs.escape_grows.Goals as goal

pub returns : goal.returns
returns c = λ attacker b t u up e. into_more attacker b t u up e
