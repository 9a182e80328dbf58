use Rattle.bit_boards.specs.Mask.{holds}
use Rattle.bit_boards.proofs.Bits.{set_one, one_small}
use Rattle.bit_boards.proofs.mask.Mask.of.Goals as goal

pub invariant_of-result : goal.invariant_of-result
invariant_of-result c = record { on_board = one_small _ c.args.square.on_board }

pub returns : goal.returns
unfolding holds
returns c s = set_one _ s c.args.square.on_board
