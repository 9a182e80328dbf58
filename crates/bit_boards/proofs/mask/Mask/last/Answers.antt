use Rattle.std.proofs.Common.{◌==◌, ◌∙◌, ap}
use Rattle.bit_boards.specs.Mask.{holds}
use Rattle.bit_boards.proofs.Bits.{set, set_zero, highest_here, highest_above, highest_within}
use Rattle.bit_boards.proofs.mask.Mask.last.Goals as goal

pub invariant_of-result : goal.invariant_of-result
invariant_of-result c = record { on_board = highest_within c.args.self.bits c.ilog2.result c.ilog2.ensures.power_le c.args.self.on_board }

pub returns-then-self-eq0-clause-none : goal.returns-then-self-eq0-clause-none
unfolding holds
returns-then-self-eq0-clause-none c s = ap (λ x. set x s) c.if-self-eq0.true ∙ set_zero s

pub returns-else-self-eq0-clause-found : goal.returns-else-self-eq0-clause-found
unfolding holds
returns-else-self-eq0-clause-found c =
    ap (λ x. x == 1) (highest_here c.args.self.bits c.ilog2.result c.ilog2.ensures.power_le c.ilog2.ensures.next_power_gt)

pub returns-else-self-eq0-clause-greatest : goal.returns-else-self-eq0-clause-greatest
unfolding holds
returns-else-self-eq0-clause-greatest c s above =
    ap (λ x. x == 1) (highest_above c.args.self.bits c.ilog2.result s c.ilog2.ensures.next_power_gt above)
