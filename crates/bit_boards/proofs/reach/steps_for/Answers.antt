use Rattle.std.proofs.Common.{◌<◌, ◌^◌, sym, ap, subst, ◌∙◌}
use Rattle.bit_boards.specs.Gait.{row_of_gait}
use Rattle.bit_boards.specs.Mask.{holds}
use Rattle.bit_boards.proofs.Bits.{set}
use Rattle.bit_boards.proofs.Masked.{bits_where-at, bits_where-lt}
use Rattle.bit_boards.proofs.Stepping.{stepping, steps_at}
use Rattle.bit_boards.proofs.reach.steps_for.Goals as goal

pub invariant_of-result : goal.invariant_of-result
invariant_of-result c =
    let at = steps_at c.args.side c.args.kind c.args.promoted c.row_of.result c.row-gait.result c.args.from.number c.row_of.ensures
    (c.row-gait.ensures ∙ ap row_of_gait c.of.ensures) c.args.from.on_board in
    record { on_board = subst (λ n. n < 2 ^ 81) (sym at) (bits_where-lt (stepping c.args.side c.args.kind c.args.promoted c.args.from.number)) }

pub returns : goal.returns
unfolding holds
returns c s =
    let at = steps_at c.args.side c.args.kind c.args.promoted c.row_of.result c.row-gait.result c.args.from.number c.row_of.ensures
    (c.row-gait.ensures ∙ ap row_of_gait c.of.ensures) c.args.from.on_board in
    ap (λ x. set x s) at ∙ bits_where-at (stepping c.args.side c.args.kind c.args.promoted c.args.from.number) s
