use Rattle.hand_dominance.proofs.Keys.{keys_tell}
use Rattle.hand_dominance.proofs.by_key.key_laws.Goals as goal

pub returns : goal.returns
returns c = keys_tell
