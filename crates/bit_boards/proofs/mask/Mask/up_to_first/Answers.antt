use Rattle.bit_boards.specs.Mask.{holds}
use Rattle.bit_boards.proofs.Bits.{up_to, cut_by}
use Rattle.bit_boards.proofs.mask.Mask.up_to_first.Goals as goal

pub returns : goal.returns
unfolding holds
returns c s = cut_by c.args.self.bits _ s _ c.args.self.on_board (λ within. up_to c.args.stops.bits s c.args.stops.on_board within)
