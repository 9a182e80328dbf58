use Rattle.std.proofs.Common.{◌<◌, sym, subst, arith, List, Contains}
use Rattle.board_core.specs.declared.moves.Move.{Move}
use Rattle.board_core.specs.Order.{order_of, RisesFrom}
use Rattle.move_lists.proofs.Adding.{rises_one}
use Rattle.move_lists.proofs.moves.Moves.add_if.Goals as goal

pub invariant_of-self : goal.invariant_of-self
invariant_of-self c =
    subst (RisesFrom 0) (sym c.in_ok-push.ensures.items)
    (rises_one 0 c.self.inside.list.items c.args.by c.self.invariant (omega arith)
    (subst (λ (ms : List Move). (m : Move) → Contains ms m → order_of m < order_of c.args.by) (sym c.self.view_is) c.requires.later))
