use Rattle.std.proofs.Common.{sym, subst}
use Rattle.board_core.specs.Board.{Board, HasDefender}
use Rattle.problem_answers.proofs.Reading.{searched_has_king}
use Rattle.problem_answers.proofs.problem.read_problem.Goals as goal

pub accept_problem-requires : goal.accept_problem-requires
accept_problem-requires c =
    subst (λ (b : Board). HasDefender b) (sym c.searched_position.ensures)
    (searched_has_king c.args.form.rest c.in_ok-position.position c.in_ok-position.ensures.defender)
