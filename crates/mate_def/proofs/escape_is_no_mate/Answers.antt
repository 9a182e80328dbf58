use Rattle.mate_def.proofs.Laws.{escape_excludes}
use Rattle.mate_def.proofs.escape_is_no_mate.Goals as goal

pub returns : goal.returns
returns c = λ attacker b e m. escape_excludes attacker b e m
