use Rattle.cook_line.proofs.Reading.{faultless, one_bad, in_turn}
use Rattle.cook_line.proofs.Meaning.{words_mean}
use Rattle.cook_line.proofs.laws.line_laws.Goals as goal

pub returns-clause-faultless : goal.returns-clause-faultless
returns-clause-faultless c = faultless c.move_laws.ensures

pub returns-clause-one_fault : goal.returns-clause-one_fault
returns-clause-one_fault c = one_bad c.move_laws.ensures

pub returns-clause-in_turn : goal.returns-clause-in_turn
returns-clause-in_turn c = in_turn

pub returns-clause-words : goal.returns-clause-words
returns-clause-words c = words_mean c.order_laws.ensures.apart
