-- What the position line came to, and the session as it is then.
use Rattle.std.proofs.Common.{Ok, Err, refl, ap, subst}
use Rattle.usi_session.specs.Fields.{fields_of}
use Rattle.usi_session.specs.Sessions.{SessionView, Says}
use Rattle.usi_session.specs.Reading.{IsPositionTold}
use Rattle.usi_session.proofs.Somes.{on-err, position-some}
use Rattle.usi_session.proofs.session.Session.set_position.Goals as goal

pub returns-in_err-outcome-clause-some : goal.returns-in_err-outcome-clause-some
returns-in_err-outcome-clause-some c =
    on-err c.from_residual.result (position-some c.args.self.now c.args.sfen.now (fields_of c.args.moves.now) c.in_err-outcome.ensures.some)

pub returns-in-Ok-clause-act : goal.returns-in-Ok-clause-act
returns-in-Ok-clause-act c =
    let same = ap (λ (s : SessionView). s.options) c.self.view_is in
    let told = subst (IsPositionTold c.args.sfen.now (fields_of c.args.moves.now)) c.in-Ok.is c.in_ok-outcome.ensures.told in
    (Ok c.in-Ok.problem.position, told, (refl, cc))

pub returns-in-Err-clause-act : goal.returns-in-Err-clause-act
returns-in-Err-clause-act c =
    let same = ap (λ (s : SessionView). s.options) c.self.view_is in
    let told = subst (IsPositionTold c.args.sfen.now (fields_of c.args.moves.now)) c.in-Err.is c.in_ok-outcome.ensures.told in
    (Err told.0, told.1, (ap Says told.2, cc))
