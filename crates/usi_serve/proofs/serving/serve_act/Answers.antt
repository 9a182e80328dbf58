use Rattle.std.proofs.Common.{ℕ, List, refl, subst, sym}
use Rattle.one_run.specs.Outside.{shown}
use Rattle.one_run.specs.Stops.{signals}
use Rattle.usi_session.specs.Seen.{act_seen}
use Rattle.usi_session.specs.Sessions.{Says}
use Rattle.usi_session.specs.declared.act.Act.{Act}
use Rattle.usi_serve.specs.Inside.{IsActServed}
use Rattle.usi_serve.proofs.serving.serve_act.Goals as goal

-- What the session says is its text.
pub returns-in-Say : goal.returns-in-Say
returns-in-Say g c =
    let stops = signals g.T.Stop.signal c.args.stops.now.items c.args.stops.now.items in
    let sink = shown g.K.Sink.kept g.K.Sink.faults c.args.sink.now c.say.new.sink in
    subst (λ (a : Act). IsActServed (act_seen a) stops sink c.say.result) (sym c.in-Say.is)
    (subst (λ (t : List ℕ). IsActServed (Says t) stops sink c.say.result) c.deref.ensures.value (c.say.ensures stops refl))
