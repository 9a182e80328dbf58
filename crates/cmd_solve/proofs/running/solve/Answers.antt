use Rattle.one_run.specs.Outside.{shown}
use Rattle.one_run.specs.Stops.{signals}
use Rattle.cmd_solve.specs.Asked.{solve_in}
use Rattle.cmd_solve.proofs.Promises.{solve_run}
use Rattle.cmd_solve.proofs.running.solve.Goals as goal

pub returns-clause-mate : goal.returns-clause-mate
returns-clause-mate g c =
    (
    solve_run c.problem_laws.ensures (solve_in c.args.asked.now) (signals g.T.Stop.signal c.args.stops.now.items c.solve_through.new.stops.items)
    (shown g.S.Source.left g.S.Source.faults c.args.source.now c.solve_through.new.source) (shown g.K.Sink.kept g.K.Sink.faults c.args.sink.now c.solve_through.new.sink)
    c.solve_through.result c.solve_through.ensures
    ).mate

pub returns-clause-no_mate : goal.returns-clause-no_mate
returns-clause-no_mate g c =
    (
    solve_run c.problem_laws.ensures (solve_in c.args.asked.now) (signals g.T.Stop.signal c.args.stops.now.items c.solve_through.new.stops.items)
    (shown g.S.Source.left g.S.Source.faults c.args.source.now c.solve_through.new.source) (shown g.K.Sink.kept g.K.Sink.faults c.args.sink.now c.solve_through.new.sink)
    c.solve_through.result c.solve_through.ensures
    ).no_mate

pub returns-clause-gave_up : goal.returns-clause-gave_up
returns-clause-gave_up g c =
    (
    solve_run c.problem_laws.ensures (solve_in c.args.asked.now) (signals g.T.Stop.signal c.args.stops.now.items c.solve_through.new.stops.items)
    (shown g.S.Source.left g.S.Source.faults c.args.source.now c.solve_through.new.source) (shown g.K.Sink.kept g.K.Sink.faults c.args.sink.now c.solve_through.new.sink)
    c.solve_through.result c.solve_through.ensures
    ).gave_up

pub returns-clause-own_mate : goal.returns-clause-own_mate
returns-clause-own_mate g c =
    (
    solve_run c.problem_laws.ensures (solve_in c.args.asked.now) (signals g.T.Stop.signal c.args.stops.now.items c.solve_through.new.stops.items)
    (shown g.S.Source.left g.S.Source.faults c.args.source.now c.solve_through.new.source) (shown g.K.Sink.kept g.K.Sink.faults c.args.sink.now c.solve_through.new.sink)
    c.solve_through.result c.solve_through.ensures
    ).own_mate

pub returns-clause-own_no_mate : goal.returns-clause-own_no_mate
returns-clause-own_no_mate g c =
    (
    solve_run c.problem_laws.ensures (solve_in c.args.asked.now) (signals g.T.Stop.signal c.args.stops.now.items c.solve_through.new.stops.items)
    (shown g.S.Source.left g.S.Source.faults c.args.source.now c.solve_through.new.source) (shown g.K.Sink.kept g.K.Sink.faults c.args.sink.now c.solve_through.new.sink)
    c.solve_through.result c.solve_through.ensures
    ).own_no_mate

pub returns-clause-complete : goal.returns-clause-complete
returns-clause-complete g c =
    (
    solve_run c.problem_laws.ensures (solve_in c.args.asked.now) (signals g.T.Stop.signal c.args.stops.now.items c.solve_through.new.stops.items)
    (shown g.S.Source.left g.S.Source.faults c.args.source.now c.solve_through.new.source) (shown g.K.Sink.kept g.K.Sink.faults c.args.sink.now c.solve_through.new.sink)
    c.solve_through.result c.solve_through.ensures
    ).complete
