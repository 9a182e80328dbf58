use Rattle.std.proofs.Common.{◌∙◌, sym, ap, ◌==◌, if◌then◌else◌}
use Rattle.board_core.proofs.Squares.{same_squares, still_empty}
use Rattle.board_core.proofs.sets.Sets.filled.Goals as goal

pub returns-in-None : goal.returns-in-None
returns-in-None c = λ at known none. same_squares c.args.self at _
    (λ s. still_empty at c.args.square.number none s ∙ ap (λ v. if s == c.args.square.number then v else at s) (sym c.in-None.is)) known
