use Rattle.std.proofs.Common.{ℕ, List, refl, subst}
use Rattle.one_run.specs.Command.{IsAnswer}
use Rattle.one_run.specs.Outside.{shown}
use Rattle.cmd_shortest.specs.Asked.{one_stop, shortest_in}
use Rattle.cmd_shortest.specs.Meaning.{shortest_meaning}
use Rattle.cmd_shortest.proofs.running.shortest_through.Goals as goal

pub returns-in-Err : goal.returns-in-Err
returns-in-Err g c =
    let tells = g.T.Stop.signal c.args.stop.now in
    c.in-Err.ensures.ended (one_stop tells tells)
    (shown g.K.Sink.kept g.K.Sink.faults c.args.sink.now c.args.sink.now) refl (record { told = refl; faults = refl })

pub returns : goal.returns
returns g c =
    let stops = one_stop (g.T.Stop.signal c.args.stop.now) (g.T.Stop.signal c.answer-answer.new.stop) in
    c.tell.ensures stops (shown g.S.Source.left g.S.Source.faults c.args.source.now c.read.new.source) c.in-Ok.ensures.whole c.in-Ok.ensures.kept
    (subst (λ (input : List ℕ). IsAnswer (shortest_meaning (shortest_in c.args.asked.now)) stops input c.answer-answer.result) c.deref.ensures.value
    c.answer-answer.ensures.answer)
