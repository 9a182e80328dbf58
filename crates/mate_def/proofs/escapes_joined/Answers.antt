use Rattle.mate_def.proofs.Joining.{joined}
use Rattle.mate_def.proofs.escapes_joined.Goals as goal

pub returns : goal.returns
returns c = λ attacker b checks t turn whole all. joined attacker b checks t turn whole all
