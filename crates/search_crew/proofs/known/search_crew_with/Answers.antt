use Rattle.std.proofs.Common.{map}
use Rattle.search_crew.proofs.Crews.{none_polled}
use Rattle.search_crew.proofs.known.search_crew_with.Goals as goal

pub returns-in_err-kept-clause-polled : goal.returns-in_err-kept-clause-polled
returns-in_err-kept-clause-polled g c = none_polled c.args.settings.now.workers (map g.T.Stop.signal c.args.stops.now.items)

pub returns-in_err-take_all-clause-polled : goal.returns-in_err-take_all-clause-polled
returns-in_err-take_all-clause-polled g c = none_polled c.args.settings.now.workers (map g.T.Stop.signal c.args.stops.now.items)
