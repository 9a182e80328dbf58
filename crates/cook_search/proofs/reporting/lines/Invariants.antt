use Rattle.std.proofs.Common.{map}
use Rattle.search_gate.specs.Polls.{ArePolled}
use Rattle.search_limits.specs.Settings.{settings_in}
use Rattle.cook_search.specs.Inside.{AreTold}
use Rattle.cook_search.proofs.reporting.lines.Given as goal

-- the checks before this one are told of
abbrev pub invariant-loop-place : goal.invariant-loop-place
invariant-loop-place g l =
    AreTold l.ground.problem.now.position (settings_in l.ground.settings.now) (map g.T.Stop.signal l.fn.means.stops.items) (map g.T.Stop.signal l.means.stops.items)
    l.checks l.place l.lines.items l.means.crews.items
    × ArePolled l.ground.settings.now.workers (map g.T.Stop.signal l.fn.means.stops.items) (map g.T.Stop.signal l.means.stops.items)
