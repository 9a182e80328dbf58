use Rattle.std.proofs.Common.{◌≡◌, subst}
use Rattle.one_run.specs.Outside.{shown}
use Rattle.one_run.specs.Stops.{signals}
use Rattle.usi_session.specs.Seen.{act_seen}
use Rattle.usi_session.specs.Sessions.{IsAct, SessionView}
use Rattle.usi_serve.proofs.Acts.{served_line}
use Rattle.usi_serve.proofs.serving.serve_line.Goals as goal

-- What is done at the line is what the session does.
pub returns : goal.returns
returns g c =
    let view = c.serving.view_is in
    let same : c.serving.inside.session ≡ c.args.serving.now = cc in
    served_line c.session_laws.ensures.own c.args.serving.now c.line.new.self c.args.line.now (act_seen c.in-Ok.act)
    (signals g.T.Stop.signal c.args.stops.now.items c.serve_act.new.stops.items)
    (shown g.K.Sink.kept g.K.Sink.faults c.args.sink.now c.serve_act.new.sink) c.serve_act.result
    (subst (λ (s : SessionView). IsAct s c.args.line.now (act_seen c.in-Ok.act) c.line.new.self) same c.in-Ok.ensures.act) c.serve_act.ensures
