use Rattle.board_core.specs.Rest.{hand_with_rest}
use Rattle.board_core.proofs.leftover.hand_with_rest.Goals as goal

pub returns : goal.returns
unfolding hand_with_rest
returns c = cc
