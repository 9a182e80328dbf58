use Rattle.std.proofs.Common.{map}
use Rattle.search_gate.specs.Polls.{ArePolled}
use Rattle.search_limits.specs.Settings.{settings_in}
use Rattle.cook_search.specs.Inside.{IsWalked}
use Rattle.cook_search.proofs.lines.line_on.Given as goal

-- the evasions before this one are walked
abbrev pub invariant-loop-evasion : goal.invariant-loop-evasion
invariant-loop-evasion g l =
    IsWalked l.ground.problem.now.position (settings_in l.ground.settings.now) (map g.T.Stop.signal l.fn.means.stops.items) (map g.T.Stop.signal l.means.stops.items)
    l.fn.means.crews.items l.means.crews.items l.check l.evasion-items l.evasion-index l.mates.items l.opened
    × ArePolled l.ground.settings.now.workers (map g.T.Stop.signal l.fn.means.stops.items) (map g.T.Stop.signal l.means.stops.items)
