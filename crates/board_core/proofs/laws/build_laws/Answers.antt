use Rattle.board_core.proofs.Built.{built_once}
use Rattle.board_core.proofs.laws.build_laws.Goals as goal

pub returns : goal.returns
returns c = record { once = built_once c.value_laws.ensures.in_hand c.value_laws.ensures.squares c.value_laws.ensures.places }
