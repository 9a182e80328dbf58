use Rattle.std.proofs.Common.{arith}
use Rattle.bit_boards.specs.Mask.{holds}
use Rattle.bit_boards.proofs.Bits.{set_minus}
use Rattle.bit_boards.proofs.mask.Mask.minus.Goals as goal

pub returns : goal.returns
unfolding holds
returns c s = set_minus _ _ s c.args.self.on_board (omega (arith, c.args.other.on_board))
