use Rattle.std.proofs.Common.{ℕ, List, refl, subst}
use Rattle.one_run.specs.Command.{IsAnswer}
use Rattle.one_run.specs.Outside.{shown}
use Rattle.one_run.specs.Stops.{signals}
use Rattle.cmd_solve.specs.Asked.{solve_in}
use Rattle.cmd_library.specs.Meaning.{library_meaning}
use Rattle.cmd_library.proofs.running.alone_through.Goals as goal

pub returns-in-Err : goal.returns-in-Err
returns-in-Err g c =
    c.in-Err.ensures.ended (signals g.T.Stop.signal c.args.stops.now c.args.stops.now)
    (shown g.K.Sink.kept g.K.Sink.faults c.args.sink.now c.args.sink.now) refl (record { told = refl; faults = refl })

pub returns : goal.returns
returns g c =
    let stops = signals g.T.Stop.signal c.args.stops.now c.answer_alone-answer.new.stops in
    c.tell.ensures stops (shown g.S.Source.left g.S.Source.faults c.args.source.now c.read.new.source) c.in-Ok.ensures.whole c.in-Ok.ensures.kept
    (subst (λ (input : List ℕ). IsAnswer (library_meaning (solve_in c.args.asked.now)) stops input c.answer_alone-answer.result) c.deref.ensures.value
    c.answer_alone-answer.ensures.answer)
