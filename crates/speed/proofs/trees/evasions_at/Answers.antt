use Rattle.board_core.specs.Order.{Lists}
use Rattle.shogi_rules.specs.Tsume.{IsEvasion}
use Rattle.speed.proofs.trees.evasions_at.Goals as goal

pub invariant_of-result-clause-legal : goal.invariant_of-result-clause-legal
invariant_of-result-clause-legal c =
    let listed : Lists (IsEvasion c.args.problem.now.position.side c.args.at.now.position) c.in_ok-moves.moves = c.in_ok-moves.ensures in
    λ move there. (listed.sound move there).legal
