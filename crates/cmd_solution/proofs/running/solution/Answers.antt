use Rattle.std.proofs.Common.{[], refl}
use Rattle.one_run.specs.Outside.{shown}
use Rattle.one_run.specs.Stops.{Signals}
use Rattle.cmd_solution.proofs.Promises.{judged_of, posed_of}
use Rattle.cmd_solution.proofs.running.solution.Goals as goal

-- no stop at all
abbrev nobody : Signals
nobody = record { before = []; after = [] }

pub returns-clause-judged : goal.returns-clause-judged
returns-clause-judged g c = λ input verdict told is.
    judged_of nobody (shown g.S.Source.left g.S.Source.faults c.args.source.now c.solution_through.new.source)
    (shown g.K.Sink.kept g.K.Sink.faults c.args.sink.now c.solution_through.new.sink) input verdict c.solution_through.result
    (c.solution_through.ensures.run nobody refl).does told is

pub returns-clause-complete : goal.returns-clause-complete
returns-clause-complete g c = λ given sound kept.
    (c.solution_through.ensures.run nobody refl).complete (posed_of c.kif_moves_laws.ensures.faultless (g.S.Source.left c.args.source.now) given) sound kept
