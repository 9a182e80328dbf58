use Rattle.std.proofs.Common.{map}
use Rattle.search_crew.proofs.Crews.{none_polled}
use Rattle.search_crew.proofs.tables.Tables.search_crew.Goals as goal

pub returns-in_err-kept-in-Black-clause-polled : goal.returns-in_err-kept-in-Black-clause-polled
returns-in_err-kept-in-Black-clause-polled g c = none_polled c.args.settings.now.workers (map g.T.Stop.signal c.args.stops.now.items)

pub returns-in_err-kept-in-White-clause-polled : goal.returns-in_err-kept-in-White-clause-polled
returns-in_err-kept-in-White-clause-polled g c = none_polled c.args.settings.now.workers (map g.T.Stop.signal c.args.stops.now.items)
