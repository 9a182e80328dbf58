use Rattle.std.proofs.Common.{[], refl}
use Rattle.one_run.specs.Outside.{shown}
use Rattle.one_run.specs.Stops.{Signals}
use Rattle.cmd_check.specs.Asked.{check_in}
use Rattle.cmd_bound.proofs.Promises.{none_of, posed_of, shortest_of}
use Rattle.cmd_bound.proofs.running.check_with_bound.Goals as goal

-- no stop at all
abbrev nobody : Signals
nobody = record { before = []; after = [] }

pub returns-clause-shortest : goal.returns-clause-shortest
returns-clause-shortest g c = λ input moves told whole.
    shortest_of c.problem_laws.ensures c.valid_bound_is_accepted.ensures.accepted (check_in c.args.asked.now) nobody
    (shown g.S.Source.left g.S.Source.faults c.args.source.now c.check_through.new.source)
    (shown g.K.Sink.kept g.K.Sink.faults c.args.sink.now c.check_through.new.sink) input moves c.check_through.result
    (c.check_through.ensures nobody refl).does told whole

pub returns-clause-none_within : goal.returns-clause-none_within
returns-clause-none_within g c = λ input moves told whole.
    none_of c.problem_laws.ensures c.valid_bound_is_accepted.ensures.accepted (check_in c.args.asked.now) nobody
    (shown g.S.Source.left g.S.Source.faults c.args.source.now c.check_through.new.source)
    (shown g.K.Sink.kept g.K.Sink.faults c.args.sink.now c.check_through.new.sink) input moves c.check_through.result
    (c.check_through.ensures nobody refl).does told whole

pub returns-clause-complete : goal.returns-clause-complete
returns-clause-complete g c = λ given sound kept.
    (c.check_through.ensures nobody refl).complete (posed_of (check_in c.args.asked.now) (g.S.Source.left c.args.source.now) given) sound kept
