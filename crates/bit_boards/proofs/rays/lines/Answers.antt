use Rattle.std.proofs.Common.{◌<◌, ◌^◌, sym, ap, subst, ◌∙◌}
use Rattle.bit_boards.specs.Mask.{holds}
use Rattle.bit_boards.specs.Movement.{share_line}
use Rattle.bit_boards.proofs.Bits.{set}
use Rattle.bit_boards.proofs.Masked.{bits_where-at, bits_where-lt}
use Rattle.bit_boards.proofs.Looked.{lines_are}
use Rattle.bit_boards.proofs.rays.lines.Goals as goal

pub invariant_of-result : goal.invariant_of-result
invariant_of-result c = record {
  on_board = subst (λ n. n < 2 ^ 81) (sym (lines_are _ c.args.square.on_board)) (bits_where-lt (share_line c.args.square.number));
}

pub returns : goal.returns
unfolding holds
returns c s = ap (λ x. set x s) (lines_are _ c.args.square.on_board) ∙ bits_where-at (share_line c.args.square.number) s
