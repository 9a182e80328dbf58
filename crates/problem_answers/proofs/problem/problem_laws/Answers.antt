use Rattle.problem_answers.proofs.Laws.{one_reading}
use Rattle.problem_answers.proofs.problem.problem_laws.Goals as goal

pub returns : goal.returns
returns c = one_reading c.sfen_laws.ensures.outcomes c.kif_laws.ensures.outcomes
