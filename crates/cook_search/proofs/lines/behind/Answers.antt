use Rattle.std.proofs.Common.{◌<◌, ◌∙◌, ℕ, ap, subst, sym}
use Rattle.bit_boards.specs.declared.piece.Side.{Side}
use Rattle.bit_boards.specs.Kind.{other}
use Rattle.board_core.specs.Board.{kings_of}
use Rattle.board_laws.proofs.Sides.{other_twice}
use Rattle.cook_search.proofs.lines.behind.Goals as goal

pub accept_problem-requires : goal.accept_problem-requires
accept_problem-requires c =
    let p = c.args.problem.now.position in
    let turn = c.apply.ensures.turn ∙ (ap other c.apply-checked.ensures.turn ∙ other_twice p.side) in
    let kings = c.apply.ensures.kings (other p.side) ∙ c.apply-checked.ensures.kings (other p.side) in
    subst (λ (side : Side). 0 < kings_of c.apply.result (other side)) (sym turn)
    (subst (λ (n : ℕ). 0 < n) (sym kings) c.args.problem.now.accepted.has_king)
