use Rattle.std.proofs.Common.{[], refl}
use Rattle.one_run.specs.Outside.{shown}
use Rattle.one_run.specs.Stops.{Signals}
use Rattle.cmd_check.specs.Asked.{check_in}
use Rattle.cmd_check.proofs.Promises.{accepted_of, posed_of, told_of}
use Rattle.cmd_check.proofs.running.check.Goals as goal

-- no stop at all
abbrev nobody : Signals
nobody = record { before = []; after = [] }

pub returns-clause-accepted : goal.returns-clause-accepted
returns-clause-accepted g c = λ input claim entries told whole.
    accepted_of c.problem_laws.ensures (check_in c.args.asked.now) nobody (shown g.S.Source.left g.S.Source.faults c.args.source.now c.check_through.new.source)
    (shown g.K.Sink.kept g.K.Sink.faults c.args.sink.now c.check_through.new.sink) input claim entries c.check_through.result
    (c.check_through.ensures nobody refl).does told whole

pub returns-clause-same : goal.returns-clause-same
returns-clause-same g c = λ input judgement told whole is.
    told_of c.problem_laws.ensures c.verdict_laws.ensures.once (check_in c.args.asked.now) nobody (shown g.S.Source.left g.S.Source.faults c.args.source.now c.check_through.new.source)
    (shown g.K.Sink.kept g.K.Sink.faults c.args.sink.now c.check_through.new.sink) input judgement c.check_through.result
    (c.check_through.ensures nobody refl).does told whole is

pub returns-clause-complete : goal.returns-clause-complete
returns-clause-complete g c = λ given sound kept.
    (c.check_through.ensures nobody refl).complete (posed_of (check_in c.args.asked.now) (g.S.Source.left c.args.source.now) given) sound kept
