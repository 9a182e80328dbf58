use Rattle.board_core.specs.Order.{Lists}
use Rattle.shogi_rules.specs.Tsume.{IsCheck}
use Rattle.speed.proofs.trees.checks_at.Goals as goal

pub invariant_of-result-clause-legal : goal.invariant_of-result-clause-legal
invariant_of-result-clause-legal c =
    let listed : Lists (IsCheck c.args.problem.now.position.side c.args.at.now.position) c.in_ok-moves.moves = c.in_ok-moves.ensures in
    λ move there. (listed.sound move there).legal
