use Rattle.sfen_text.proofs.FirstFault.{outcome_there}
use Rattle.sfen_text.proofs.TextAgain.{read_again}
use Rattle.sfen_text.proofs.TextSpelled.{outcome_spelled, spelled_outcome}
use Rattle.sfen_text.proofs.read.read_sfen.Goals as goal

pub returns-clause-exact : goal.returns-clause-exact
returns-clause-exact c = outcome_there c.value_laws.ensures.in_hand c.args.input.now c.outcome_of.result c.outcome_of.ensures.outcome

pub returns-clause-only : goal.returns-clause-only
returns-clause-only c = λ other is. c.sfen_laws.ensures.outcomes c.args.input.now c.outcome_of.result other ((outcome_there c.value_laws.ensures.in_hand) c.args.input.now c.outcome_of.result c.outcome_of.ensures.outcome) is

pub returns-clause-spelled : goal.returns-clause-spelled
returns-clause-spelled c = outcome_spelled c.value_laws.ensures.in_hand c.args.input.now c.outcome_of.result c.outcome_of.ensures.outcome

pub returns-clause-read : goal.returns-clause-read
returns-clause-read c = spelled_outcome c.value_laws.ensures.in_hand c.args.input.now c.outcome_of.result c.outcome_of.ensures.outcome

pub returns-clause-again : goal.returns-clause-again
returns-clause-again c = read_again c.args.input.now c.outcome_of.result c.outcome_of.ensures.outcome
