use Rattle.bit_boards.specs.Mask.{holds}
use Rattle.bit_boards.proofs.Bits.{set_and}
use Rattle.bit_boards.proofs.mask.Mask.and.Goals as goal

pub returns : goal.returns
unfolding holds
returns c s = set_and _ _ s
