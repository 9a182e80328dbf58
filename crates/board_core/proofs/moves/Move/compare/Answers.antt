use Rattle.std.proofs.Common.{◌∙◌}
use Rattle.board_core.proofs.MoveOrder.{move_order-place}
use Rattle.board_core.proofs.moves.Move.compare.Goals as goal

pub returns : goal.returns
returns c = c.cmp.ensures ∙ move_order-place c.args.self c.args.with
