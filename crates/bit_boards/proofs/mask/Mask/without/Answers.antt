use Rattle.std.proofs.Common.{◌&&◌, not, ◌∙◌, ap, arith}
use Rattle.bit_boards.specs.Mask.{holds}
use Rattle.bit_boards.proofs.Bits.{set, set_minus, set_one, one_small}
use Rattle.bit_boards.proofs.mask.Mask.without.Goals as goal

pub returns : goal.returns
unfolding holds
returns c s = set_minus _ _ s c.args.self.on_board (let small = one_small _ c.args.square.on_board in omega arith)
    ∙ ap (λ x. set c.args.self.bits s && not x) (set_one _ s c.args.square.on_board)
