use Rattle.kif_moves.proofs.Outcomes.{read_as}
use Rattle.kif_moves.proofs.read.read_kif_moves.Goals as goal

pub returns-clause-read : goal.returns-clause-read
returns-clause-read c = λ problem moves stands.
    read_as c.kif_moves_laws.ensures.texts c.kif_moves_laws.ensures.faultless c.args.input.now problem moves c.solution_of.result c.solution_of.ensures stands
