use Rattle.one_run.specs.Outside.{shown}
use Rattle.cmd_usi.proofs.Stops.{stops_same}
use Rattle.cmd_usi.proofs.turn.Talk.turn.Goals as goal

pub returns-in-Ok-Replied-clause-same : goal.returns-in-Ok-Replied-clause-same
returns-in-Ok-Replied-clause-same g c =
    stops_same g.T.Stop.signal c.args.stops.now.items c.serve_line.new.stops.items c.args.self.now.serving c.serve_line.new.serving c.deref.result.now
    (shown g.K.Sink.kept g.K.Sink.faults c.args.sink.now c.serve_line.new.sink) c.serve_line.result c.serve_line.ensures

pub returns-in-Err-Write-clause-same : goal.returns-in-Err-Write-clause-same
returns-in-Err-Write-clause-same g c =
    stops_same g.T.Stop.signal c.args.stops.now.items c.serve_line.new.stops.items c.args.self.now.serving c.serve_line.new.serving c.deref.result.now
    (shown g.K.Sink.kept g.K.Sink.faults c.args.sink.now c.serve_line.new.sink) c.serve_line.result c.serve_line.ensures

pub returns-clause-same : goal.returns-clause-same
returns-clause-same g c =
    stops_same g.T.Stop.signal c.args.stops.now.items c.serve_line.new.stops.items c.args.self.now.serving c.serve_line.new.serving c.deref.result.now
    (shown g.K.Sink.kept g.K.Sink.faults c.args.sink.now c.serve_line.new.sink) c.serve_line.result c.serve_line.ensures
