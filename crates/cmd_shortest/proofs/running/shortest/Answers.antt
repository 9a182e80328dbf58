use Rattle.one_run.specs.Outside.{shown}
use Rattle.cmd_shortest.specs.Asked.{one_stop, shortest_in}
use Rattle.cmd_shortest.proofs.Promises.{shortest_run}
use Rattle.cmd_shortest.proofs.running.shortest.Goals as goal

pub returns-clause-found : goal.returns-clause-found
returns-clause-found g c =
    (
    shortest_run c.problem_laws.ensures (shortest_in c.args.asked.now) (one_stop (g.T.Stop.signal c.args.stop.now) (g.T.Stop.signal c.shortest_through.new.stop))
    (shown g.S.Source.left g.S.Source.faults c.args.source.now c.shortest_through.new.source) (shown g.K.Sink.kept g.K.Sink.faults c.args.sink.now c.shortest_through.new.sink)
    c.shortest_through.result c.shortest_through.ensures
    ).found

pub returns-clause-none_within : goal.returns-clause-none_within
returns-clause-none_within g c =
    (
    shortest_run c.problem_laws.ensures (shortest_in c.args.asked.now) (one_stop (g.T.Stop.signal c.args.stop.now) (g.T.Stop.signal c.shortest_through.new.stop))
    (shown g.S.Source.left g.S.Source.faults c.args.source.now c.shortest_through.new.source) (shown g.K.Sink.kept g.K.Sink.faults c.args.sink.now c.shortest_through.new.sink)
    c.shortest_through.result c.shortest_through.ensures
    ).none_within

pub returns-clause-gave_up : goal.returns-clause-gave_up
returns-clause-gave_up g c =
    (
    shortest_run c.problem_laws.ensures (shortest_in c.args.asked.now) (one_stop (g.T.Stop.signal c.args.stop.now) (g.T.Stop.signal c.shortest_through.new.stop))
    (shown g.S.Source.left g.S.Source.faults c.args.source.now c.shortest_through.new.source) (shown g.K.Sink.kept g.K.Sink.faults c.args.sink.now c.shortest_through.new.sink)
    c.shortest_through.result c.shortest_through.ensures
    ).gave_up

pub returns-clause-own_found : goal.returns-clause-own_found
returns-clause-own_found g c =
    (
    shortest_run c.problem_laws.ensures (shortest_in c.args.asked.now) (one_stop (g.T.Stop.signal c.args.stop.now) (g.T.Stop.signal c.shortest_through.new.stop))
    (shown g.S.Source.left g.S.Source.faults c.args.source.now c.shortest_through.new.source) (shown g.K.Sink.kept g.K.Sink.faults c.args.sink.now c.shortest_through.new.sink)
    c.shortest_through.result c.shortest_through.ensures
    ).own_found

pub returns-clause-own_none : goal.returns-clause-own_none
returns-clause-own_none g c =
    (
    shortest_run c.problem_laws.ensures (shortest_in c.args.asked.now) (one_stop (g.T.Stop.signal c.args.stop.now) (g.T.Stop.signal c.shortest_through.new.stop))
    (shown g.S.Source.left g.S.Source.faults c.args.source.now c.shortest_through.new.source) (shown g.K.Sink.kept g.K.Sink.faults c.args.sink.now c.shortest_through.new.sink)
    c.shortest_through.result c.shortest_through.ensures
    ).own_none

pub returns-clause-complete : goal.returns-clause-complete
returns-clause-complete g c =
    (
    shortest_run c.problem_laws.ensures (shortest_in c.args.asked.now) (one_stop (g.T.Stop.signal c.args.stop.now) (g.T.Stop.signal c.shortest_through.new.stop))
    (shown g.S.Source.left g.S.Source.faults c.args.source.now c.shortest_through.new.source) (shown g.K.Sink.kept g.K.Sink.faults c.args.sink.now c.shortest_through.new.sink)
    c.shortest_through.result c.shortest_through.ensures
    ).complete
