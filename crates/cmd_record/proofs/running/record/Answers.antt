use Rattle.std.proofs.Common.{[], refl}
use Rattle.one_run.specs.Outside.{shown}
use Rattle.one_run.specs.Stops.{Signals}
use Rattle.cmd_record.proofs.Promises.{mates_of, posed_of, recorded_of}
use Rattle.cmd_record.proofs.running.record.Goals as goal

-- no stop at all
abbrev nobody : Signals
nobody = record { before = []; after = [] }

pub returns-clause-recorded : goal.returns-clause-recorded
returns-clause-recorded g c = λ input problem moves told is.
    recorded_of nobody (shown g.S.Source.left g.S.Source.faults c.args.source.now c.record_through.new.source)
    (shown g.K.Sink.kept g.K.Sink.faults c.args.sink.now c.record_through.new.sink) input problem moves c.record_through.result
    (c.record_through.ensures nobody refl).does told is

pub returns-clause-mates : goal.returns-clause-mates
returns-clause-mates g c = λ input told whole is.
    mates_of nobody (shown g.S.Source.left g.S.Source.faults c.args.source.now c.record_through.new.source)
    (shown g.K.Sink.kept g.K.Sink.faults c.args.sink.now c.record_through.new.sink) input c.record_through.result
    (c.record_through.ensures nobody refl).does told whole is

pub returns-clause-complete : goal.returns-clause-complete
returns-clause-complete g c = λ given sound kept.
    (c.record_through.ensures nobody refl).complete (posed_of (g.S.Source.left c.args.source.now) given) sound kept
