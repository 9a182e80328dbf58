use Rattle.std.proofs.Common.{◌<◌, ◌^◌, sym, ap, subst, ◌∙◌}
use Rattle.bit_boards.specs.Mask.{holds}
use Rattle.bit_boards.specs.Movement.{are_near}
use Rattle.bit_boards.proofs.Bits.{set}
use Rattle.bit_boards.proofs.Masked.{bits_where-at, bits_where-lt}
use Rattle.bit_boards.proofs.Looked.{around_are}
use Rattle.bit_boards.proofs.reach.around.Goals as goal

pub invariant_of-result : goal.invariant_of-result
invariant_of-result c = record {
  on_board = subst (λ n. n < 2 ^ 81) (sym (around_are _ c.args.square.on_board)) (bits_where-lt (are_near c.args.square.number));
}

pub returns : goal.returns
unfolding holds
returns c s = ap (λ x. set x s) (around_are _ c.args.square.on_board) ∙ bits_where-at (are_near c.args.square.number) s
