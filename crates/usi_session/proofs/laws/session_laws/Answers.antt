-- One act a line, and one list of acts over lines.
use Rattle.usi_session.proofs.OneAct.{act-one}
use Rattle.usi_session.proofs.Over.{solves-own, session-one, acts-one, line-more, nothing-behind}
use Rattle.usi_session.proofs.laws.session_laws.Goals as goal

pub returns-clause-act : goal.returns-clause-act
returns-clause-act c = act-one c.sfen_laws.ensures.outcomes c.move_laws.ensures

pub returns-clause-own : goal.returns-clause-own
returns-clause-own c = solves-own

pub returns-clause-session : goal.returns-clause-session
returns-clause-session c = session-one (act-one c.sfen_laws.ensures.outcomes c.move_laws.ensures)

pub returns-clause-further : goal.returns-clause-further
returns-clause-further c = line-more

pub returns-clause-over : goal.returns-clause-over
returns-clause-over c = nothing-behind

pub returns-clause-acts : goal.returns-clause-acts
returns-clause-acts c = acts-one (session-one (act-one c.sfen_laws.ensures.outcomes c.move_laws.ensures))
