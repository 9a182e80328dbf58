use Rattle.kif_moves.proofs.Outcomes.{apart, one, faultless}
use Rattle.kif_moves.proofs.laws.kif_moves_laws.Goals as goal

pub returns-clause-texts : goal.returns-clause-texts
returns-clause-texts c = apart c.kif_laws.ensures.outcomes c.value_laws.ensures.squares

pub returns-clause-one_fault : goal.returns-clause-one_fault
returns-clause-one_fault c = one c.kif_laws.ensures.outcomes c.value_laws.ensures.squares

pub returns-clause-faultless : goal.returns-clause-faultless
returns-clause-faultless c = faultless c.kif_laws.ensures.outcomes c.value_laws.ensures.squares
