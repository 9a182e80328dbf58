use Rattle.std.proofs.Common.{map}
use Rattle.search_limits.specs.Settings.{settings_in}
use Rattle.cook_search.proofs.Walking.{decided_by}
use Rattle.cook_search.proofs.deciding.decide.Goals as goal

pub returns-clause-decided : goal.returns-clause-decided
returns-clause-decided g c =
    decided_by c.found_by.result c.args.position.now.position (settings_in c.args.ground.now.settings.now) (map g.T.Stop.signal c.args.means.now.stops.items)
    (map g.T.Stop.signal c.search.new.stops.items) c.args.means.now.crews.items c.found_by.new.crews.items c.in_ok-end.end c.in_ok-end.ensures.end
    c.found_by.ensures.finding c.found_by.ensures.brought
