use Rattle.shortest_search.proofs.Attacking.{polled_once, polled_more}
use Rattle.shortest_search.proofs.run.Run.begin.Goals as goal

pub returns-then-poll-clause-polled : goal.returns-then-poll-clause-polled
returns-then-poll-clause-polled g c =
    polled_more c.args.self.now.made (g.T.Stop.signal c.args.stop.now) (g.T.Stop.signal c.poll.new.self)
    (polled_once c.args.self.now.made (g.T.Stop.signal c.args.stop.now) (g.T.Stop.signal c.poll.new.self) c.poll.result c.poll.ensures)

pub returns-clause-polled : goal.returns-clause-polled
returns-clause-polled g c =
    polled_once c.args.self.now.made (g.T.Stop.signal c.args.stop.now) (g.T.Stop.signal c.poll.new.self) c.poll.result c.poll.ensures
