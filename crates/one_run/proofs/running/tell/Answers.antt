use Rattle.std.proofs.Common.{subst, sym}
use Rattle.one_run.specs.Command.{IsAnswer}
use Rattle.one_run.specs.Outside.{shown}
use Rattle.one_run.specs.Run.{IsRun}
use Rattle.one_run.proofs.Endings.{written_run}
use Rattle.one_run.proofs.running.tell.Goals as goal

pub returns-in-Ok : goal.returns-in-Ok
returns-in-Ok g c = λ stops source read kept is.
    let command = g.C.Command.meaning c.args.command.now in
    let sink = shown g.K.Sink.kept g.K.Sink.faults c.args.sink.now c.write.new.sink in
    let true_of = subst (IsAnswer command stops c.args.input.items) c.in-Ok.is is in
    subst (IsRun command stops source sink) (sym c.ended.ensures)
    (written_run command stops source sink c.args.input.items c.in-Ok.answer c.write.result read kept true_of.0 true_of.1
    (c.write.ensures (command.text_of c.in-Ok.answer) c.text-text.ensures))
