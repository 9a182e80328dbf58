use Rattle.one_run.specs.Outside.{shown}
use Rattle.one_run.specs.Stops.{signals}
use Rattle.cmd_usi.proofs.Told.{ends_well, replies_show}
use Rattle.cmd_usi.proofs.running.usi.Goals as goal

pub returns-clause-replies : goal.returns-clause-replies
returns-clause-replies g c =
    replies_show c.talk.result.end (shown g.S.Source.left g.S.Source.faults c.args.source.now c.talk.new.source)
    (shown g.K.Sink.kept g.K.Sink.faults c.args.sink.now c.talk.new.sink)
    (signals g.T.Stop.signal c.args.stops.now.items c.talk.new.stops.items) c.talk.result.replies.items c.talk.ensures.ended

pub returns-clause-complete : goal.returns-clause-complete
returns-clause-complete g c = λ fit read written.
    ends_well c.talk.result.end (shown g.S.Source.left g.S.Source.faults c.args.source.now c.talk.new.source)
    (shown g.K.Sink.kept g.K.Sink.faults c.args.sink.now c.talk.new.sink)
    (signals g.T.Stop.signal c.args.stops.now.items c.talk.new.stops.items) c.talk.result.replies.items c.talk.ensures.ended fit read written
