use Rattle.bit_boards.specs.Mask.{holds}
use Rattle.bit_boards.proofs.Bits.{set_zero}
use Rattle.bit_boards.proofs.mask.Mask.empty.Goals as goal

pub returns : goal.returns
unfolding holds
returns c s = set_zero s
