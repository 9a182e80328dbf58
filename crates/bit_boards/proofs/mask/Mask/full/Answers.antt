use Rattle.bit_boards.specs.Mask.{holds}
use Rattle.bit_boards.proofs.Bits.{set_full}
use Rattle.bit_boards.proofs.mask.Mask.full.Goals as goal

pub returns : goal.returns
unfolding holds
returns c s = set_full s
