use Rattle.std.proofs.Common.{◌≡◌, ap, sym, subst, ◌∙◌}
use Rattle.bit_boards.specs.Kind.{other}
use Rattle.board_core.specs.Board.{Board, kings_of}
use Rattle.shogi_rules.specs.Rules.{IsLegal, after}
use Rattle.visit_log.specs.Frame.{task_for}
use Rattle.worker_core.proofs.Played.{child_legal, child_played}
use Rattle.worker_core.proofs.stack.played_after.Goals as goal

pub apply-next-requires-clause-legal : goal.apply-next-requires-clause-legal
apply-next-requires-clause-legal c =
    let listed = c.requires.listed in
    let child = c.requires.child in
    subst (λ (b : Board). IsLegal b c.args.by) (sym c.position.ensures)
    (child_legal (task_for c.args.problem.now.position c.args.worker) listed.0 c.args.frame.now c.args.frame.now.chosen child.0 c.args.by listed.1 child.1 child.2)

pub returns-clause-played : goal.returns-clause-played
returns-clause-played c =
    let listed = c.requires.listed in
    let child = c.requires.child in
    let apply = c.apply-next.ensures in
    let at : c.position.result.now ≡ c.args.frame.now.place.position = c.position.ensures in
    child_played (task_for c.args.problem.now.position c.args.worker) listed.0 c.args.frame.now c.args.frame.now.chosen child.0 c.args.by c.apply-next.result listed.1 child.1 child.2
    (apply.position ∙ ap (λ (b : Board). after b c.args.by) at) (apply.turn ∙ ap (λ (b : Board). other b.side) at) apply.quiet
    (λ side. apply.kings side ∙ ap (λ (b : Board). kings_of b side) at) c.laws.ensures
