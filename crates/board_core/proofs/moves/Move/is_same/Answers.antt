use Rattle.std.proofs.Common.{ap, sym, ◌∙◌, eq-eqb, eqb-true}
use Rattle.board_core.specs.Order.{order_of}
use Rattle.board_core.proofs.MoveOrder.{move_same-place, move_exact}
use Rattle.board_core.proofs.moves.Move.is_same.Goals as goal

pub returns-clause-same : goal.returns-clause-same
returns-clause-same c = (
  (λ t. move_exact c.args.self c.args.with (eqb-true _ _ (sym (c.eq.ensures ∙ move_same-place c.args.self c.args.with) ∙ t))),
  (λ e. (c.eq.ensures ∙ move_same-place c.args.self c.args.with) ∙ eq-eqb _ _ (ap order_of e)),
)
