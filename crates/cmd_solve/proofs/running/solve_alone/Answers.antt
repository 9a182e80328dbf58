use Rattle.one_run.specs.Outside.{shown}
use Rattle.one_run.specs.Stops.{signals}
use Rattle.cmd_solve.specs.Asked.{solve_in}
use Rattle.cmd_solve.proofs.Promises.{solve_run}
use Rattle.cmd_solve.proofs.running.solve_alone.Goals as goal

pub returns : goal.returns
returns g c =
    solve_run c.problem_laws.ensures (solve_in c.args.asked.now) (signals g.T.Stop.signal c.args.stops.now c.alone_through.new.stops)
    (shown g.S.Source.left g.S.Source.faults c.args.source.now c.alone_through.new.source) (shown g.K.Sink.kept g.K.Sink.faults c.args.sink.now c.alone_through.new.sink)
    c.alone_through.result c.alone_through.ensures
