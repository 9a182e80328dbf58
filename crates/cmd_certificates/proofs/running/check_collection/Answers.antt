use Rattle.std.proofs.Common.{[], refl}
use Rattle.one_run.specs.Outside.{shown}
use Rattle.one_run.specs.Stops.{Signals}
use Rattle.cmd_certificates.proofs.Promises.{accepted_of, posed_of, told_of}
use Rattle.cmd_certificates.proofs.running.check_collection.Goals as goal

-- no stop at all
abbrev nobody : Signals
nobody = record { before = []; after = [] }

pub returns-clause-accepted : goal.returns-clause-accepted
returns-clause-accepted g c = λ input place number claim entries told whole.
    accepted_of nobody (shown g.S.Source.left g.S.Source.faults c.args.source.now c.check_through.new.source)
    (shown g.K.Sink.kept g.K.Sink.faults c.args.sink.now c.check_through.new.sink) input place number claim entries c.check_through.result
    (c.check_through.ensures nobody refl).does told whole

pub returns-clause-same : goal.returns-clause-same
returns-clause-same g c = λ input judged told whole are.
    told_of c.verdict_laws.ensures.once nobody (shown g.S.Source.left g.S.Source.faults c.args.source.now c.check_through.new.source)
    (shown g.K.Sink.kept g.K.Sink.faults c.args.sink.now c.check_through.new.sink) input judged c.check_through.result
    (c.check_through.ensures nobody refl).does told whole are

pub returns-clause-complete : goal.returns-clause-complete
returns-clause-complete g c = λ given sound kept.
    (c.check_through.ensures nobody refl).complete (posed_of (g.S.Source.left c.args.source.now) given) sound kept
