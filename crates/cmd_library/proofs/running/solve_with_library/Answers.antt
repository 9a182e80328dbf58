use Rattle.one_run.specs.Outside.{shown}
use Rattle.one_run.specs.Stops.{signals}
use Rattle.cmd_solve.specs.Asked.{solve_in}
use Rattle.cmd_library.proofs.Promises.{library_run}
use Rattle.cmd_library.proofs.running.solve_with_library.Goals as goal

pub returns-clause-mate : goal.returns-clause-mate
returns-clause-mate g c =
    (
    library_run (record { reading = c.problem_laws.ensures; apart = c.library_laws.ensures.texts; faultless = c.library_laws.ensures.faultless; verdict = c.verdict_laws.ensures.once })
    (solve_in c.args.asked.now) (signals g.T.Stop.signal c.args.stops.now.items c.library_through.new.stops.items)
    (shown g.S.Source.left g.S.Source.faults c.args.source.now c.library_through.new.source) (shown g.K.Sink.kept g.K.Sink.faults c.args.sink.now c.library_through.new.sink)
    c.library_through.result c.library_through.ensures
    ).mate

pub returns-clause-no_mate : goal.returns-clause-no_mate
returns-clause-no_mate g c =
    (
    library_run (record { reading = c.problem_laws.ensures; apart = c.library_laws.ensures.texts; faultless = c.library_laws.ensures.faultless; verdict = c.verdict_laws.ensures.once })
    (solve_in c.args.asked.now) (signals g.T.Stop.signal c.args.stops.now.items c.library_through.new.stops.items)
    (shown g.S.Source.left g.S.Source.faults c.args.source.now c.library_through.new.source) (shown g.K.Sink.kept g.K.Sink.faults c.args.sink.now c.library_through.new.sink)
    c.library_through.result c.library_through.ensures
    ).no_mate

pub returns-clause-gave_up : goal.returns-clause-gave_up
returns-clause-gave_up g c =
    (
    library_run (record { reading = c.problem_laws.ensures; apart = c.library_laws.ensures.texts; faultless = c.library_laws.ensures.faultless; verdict = c.verdict_laws.ensures.once })
    (solve_in c.args.asked.now) (signals g.T.Stop.signal c.args.stops.now.items c.library_through.new.stops.items)
    (shown g.S.Source.left g.S.Source.faults c.args.source.now c.library_through.new.source) (shown g.K.Sink.kept g.K.Sink.faults c.args.sink.now c.library_through.new.sink)
    c.library_through.result c.library_through.ensures
    ).gave_up

pub returns-clause-refused : goal.returns-clause-refused
returns-clause-refused g c =
    (
    library_run (record { reading = c.problem_laws.ensures; apart = c.library_laws.ensures.texts; faultless = c.library_laws.ensures.faultless; verdict = c.verdict_laws.ensures.once })
    (solve_in c.args.asked.now) (signals g.T.Stop.signal c.args.stops.now.items c.library_through.new.stops.items)
    (shown g.S.Source.left g.S.Source.faults c.args.source.now c.library_through.new.source) (shown g.K.Sink.kept g.K.Sink.faults c.args.sink.now c.library_through.new.sink)
    c.library_through.result c.library_through.ensures
    ).refused

pub returns-clause-known : goal.returns-clause-known
returns-clause-known g c =
    (
    library_run (record { reading = c.problem_laws.ensures; apart = c.library_laws.ensures.texts; faultless = c.library_laws.ensures.faultless; verdict = c.verdict_laws.ensures.once })
    (solve_in c.args.asked.now) (signals g.T.Stop.signal c.args.stops.now.items c.library_through.new.stops.items)
    (shown g.S.Source.left g.S.Source.faults c.args.source.now c.library_through.new.source) (shown g.K.Sink.kept g.K.Sink.faults c.args.sink.now c.library_through.new.sink)
    c.library_through.result c.library_through.ensures
    ).known

pub returns-clause-own_mate : goal.returns-clause-own_mate
returns-clause-own_mate g c =
    (
    library_run (record { reading = c.problem_laws.ensures; apart = c.library_laws.ensures.texts; faultless = c.library_laws.ensures.faultless; verdict = c.verdict_laws.ensures.once })
    (solve_in c.args.asked.now) (signals g.T.Stop.signal c.args.stops.now.items c.library_through.new.stops.items)
    (shown g.S.Source.left g.S.Source.faults c.args.source.now c.library_through.new.source) (shown g.K.Sink.kept g.K.Sink.faults c.args.sink.now c.library_through.new.sink)
    c.library_through.result c.library_through.ensures
    ).own_mate

pub returns-clause-own_no_mate : goal.returns-clause-own_no_mate
returns-clause-own_no_mate g c =
    (
    library_run (record { reading = c.problem_laws.ensures; apart = c.library_laws.ensures.texts; faultless = c.library_laws.ensures.faultless; verdict = c.verdict_laws.ensures.once })
    (solve_in c.args.asked.now) (signals g.T.Stop.signal c.args.stops.now.items c.library_through.new.stops.items)
    (shown g.S.Source.left g.S.Source.faults c.args.source.now c.library_through.new.source) (shown g.K.Sink.kept g.K.Sink.faults c.args.sink.now c.library_through.new.sink)
    c.library_through.result c.library_through.ensures
    ).own_no_mate

pub returns-clause-used : goal.returns-clause-used
returns-clause-used g c =
    (
    library_run (record { reading = c.problem_laws.ensures; apart = c.library_laws.ensures.texts; faultless = c.library_laws.ensures.faultless; verdict = c.verdict_laws.ensures.once })
    (solve_in c.args.asked.now) (signals g.T.Stop.signal c.args.stops.now.items c.library_through.new.stops.items)
    (shown g.S.Source.left g.S.Source.faults c.args.source.now c.library_through.new.source) (shown g.K.Sink.kept g.K.Sink.faults c.args.sink.now c.library_through.new.sink)
    c.library_through.result c.library_through.ensures
    ).used

pub returns-clause-complete : goal.returns-clause-complete
returns-clause-complete g c =
    (
    library_run (record { reading = c.problem_laws.ensures; apart = c.library_laws.ensures.texts; faultless = c.library_laws.ensures.faultless; verdict = c.verdict_laws.ensures.once })
    (solve_in c.args.asked.now) (signals g.T.Stop.signal c.args.stops.now.items c.library_through.new.stops.items)
    (shown g.S.Source.left g.S.Source.faults c.args.source.now c.library_through.new.source) (shown g.K.Sink.kept g.K.Sink.faults c.args.sink.now c.library_through.new.sink)
    c.library_through.result c.library_through.ensures
    ).complete
