use Rattle.std.proofs.Common.{map}
use Rattle.search_crew.proofs.Crews.{none_polled}
use Rattle.search_crew.proofs.known.search_with.Goals as goal

pub returns-in_err-note-clause-polled : goal.returns-in_err-note-clause-polled
returns-in_err-note-clause-polled g c = none_polled c.args.settings.now.workers (map g.T.Stop.signal c.args.stops.now.items)

pub returns-in-Some-clause-polled : goal.returns-in-Some-clause-polled
returns-in-Some-clause-polled g c = none_polled c.args.settings.now.workers (map g.T.Stop.signal c.args.stops.now.items)
