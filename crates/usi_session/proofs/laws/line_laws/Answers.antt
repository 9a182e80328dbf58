-- What lines are and say.
use Rattle.usi_session.proofs.Lines.{spaces-part, words-fields, sfen-behind}
use Rattle.usi_session.proofs.laws.line_laws.Goals as goal

pub returns-clause-spaces : goal.returns-clause-spaces
returns-clause-spaces c = spaces-part

pub returns-clause-words : goal.returns-clause-words
returns-clause-words c = words-fields

pub returns-clause-sfens : goal.returns-clause-sfens
returns-clause-sfens c = sfen-behind
