use Rattle.bit_boards.specs.Mask.{holds}
use Rattle.bit_boards.proofs.Bits.{down_to, cut_by, or_one}
use Rattle.bit_boards.proofs.mask.Mask.down_to_last.Goals as goal

pub ilog2-requires : goal.ilog2-requires
ilog2-requires c = or_one c.args.stops.bits

pub returns : goal.returns
unfolding holds
returns c s = cut_by c.args.self.bits _ s _ c.args.self.on_board
    (λ within. down_to c.args.stops.bits c.ilog2.result s c.ilog2.ensures.bound c.ilog2.ensures.power_le c.ilog2.ensures.next_power_gt within)
