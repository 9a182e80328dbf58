use Rattle.one_run.specs.Outside.{shown}
use Rattle.one_run.specs.Stops.{signals}
use Rattle.cmd_cook.specs.Asked.{cook_in}
use Rattle.cmd_cook.proofs.Promises.{cook_run}
use Rattle.cmd_cook.proofs.running.cook.Goals as goal

pub returns-clause-report : goal.returns-clause-report
returns-clause-report g c =
    (
    cook_run c.problem_laws.ensures c.report_laws.ensures.shows c.line_laws.ensures.faultless c.line_laws.ensures.words (cook_in c.args.asked.now)
    (signals g.T.Stop.signal c.args.stops.now.items c.cook_through.new.stops.items)
    (shown g.S.Source.left g.S.Source.faults c.args.source.now c.cook_through.new.source) (shown g.K.Sink.kept g.K.Sink.faults c.args.sink.now c.cook_through.new.sink)
    c.cook_through.result c.cook_through.ensures
    ).report

pub returns-clause-own_report : goal.returns-clause-own_report
returns-clause-own_report g c =
    (
    cook_run c.problem_laws.ensures c.report_laws.ensures.shows c.line_laws.ensures.faultless c.line_laws.ensures.words (cook_in c.args.asked.now)
    (signals g.T.Stop.signal c.args.stops.now.items c.cook_through.new.stops.items)
    (shown g.S.Source.left g.S.Source.faults c.args.source.now c.cook_through.new.source) (shown g.K.Sink.kept g.K.Sink.faults c.args.sink.now c.cook_through.new.sink)
    c.cook_through.result c.cook_through.ensures
    ).own_report

pub returns-clause-along : goal.returns-clause-along
returns-clause-along g c =
    (
    cook_run c.problem_laws.ensures c.report_laws.ensures.shows c.line_laws.ensures.faultless c.line_laws.ensures.words (cook_in c.args.asked.now)
    (signals g.T.Stop.signal c.args.stops.now.items c.cook_through.new.stops.items)
    (shown g.S.Source.left g.S.Source.faults c.args.source.now c.cook_through.new.source) (shown g.K.Sink.kept g.K.Sink.faults c.args.sink.now c.cook_through.new.sink)
    c.cook_through.result c.cook_through.ensures
    ).along

pub returns-clause-own_along : goal.returns-clause-own_along
returns-clause-own_along g c =
    (
    cook_run c.problem_laws.ensures c.report_laws.ensures.shows c.line_laws.ensures.faultless c.line_laws.ensures.words (cook_in c.args.asked.now)
    (signals g.T.Stop.signal c.args.stops.now.items c.cook_through.new.stops.items)
    (shown g.S.Source.left g.S.Source.faults c.args.source.now c.cook_through.new.source) (shown g.K.Sink.kept g.K.Sink.faults c.args.sink.now c.cook_through.new.sink)
    c.cook_through.result c.cook_through.ensures
    ).own_along

pub returns-clause-searches : goal.returns-clause-searches
returns-clause-searches g c =
    (
    cook_run c.problem_laws.ensures c.report_laws.ensures.shows c.line_laws.ensures.faultless c.line_laws.ensures.words (cook_in c.args.asked.now)
    (signals g.T.Stop.signal c.args.stops.now.items c.cook_through.new.stops.items)
    (shown g.S.Source.left g.S.Source.faults c.args.source.now c.cook_through.new.source) (shown g.K.Sink.kept g.K.Sink.faults c.args.sink.now c.cook_through.new.sink)
    c.cook_through.result c.cook_through.ensures
    ).searches

pub returns-clause-complete : goal.returns-clause-complete
returns-clause-complete g c =
    (
    cook_run c.problem_laws.ensures c.report_laws.ensures.shows c.line_laws.ensures.faultless c.line_laws.ensures.words (cook_in c.args.asked.now)
    (signals g.T.Stop.signal c.args.stops.now.items c.cook_through.new.stops.items)
    (shown g.S.Source.left g.S.Source.faults c.args.source.now c.cook_through.new.source) (shown g.K.Sink.kept g.K.Sink.faults c.args.sink.now c.cook_through.new.sink)
    c.cook_through.result c.cook_through.ensures
    ).complete
