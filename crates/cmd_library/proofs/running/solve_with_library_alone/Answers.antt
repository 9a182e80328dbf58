use Rattle.one_run.specs.Outside.{shown}
use Rattle.one_run.specs.Stops.{signals}
use Rattle.cmd_solve.specs.Asked.{solve_in}
use Rattle.cmd_library.proofs.Promises.{library_run}
use Rattle.cmd_library.proofs.running.solve_with_library_alone.Goals as goal

pub returns : goal.returns
returns g c =
    library_run (record { reading = c.problem_laws.ensures; apart = c.library_laws.ensures.texts; faultless = c.library_laws.ensures.faultless; verdict = c.verdict_laws.ensures.once })
    (solve_in c.args.asked.now) (signals g.T.Stop.signal c.args.stops.now c.alone_through.new.stops)
    (shown g.S.Source.left g.S.Source.faults c.args.source.now c.alone_through.new.source) (shown g.K.Sink.kept g.K.Sink.faults c.args.sink.now c.alone_through.new.sink)
    c.alone_through.result c.alone_through.ensures
