use Rattle.std.proofs.Common.{map}
use Rattle.search_gate.specs.Polls.{ArePolled}
use Rattle.search_limits.specs.Settings.{settings_in}
use Rattle.cook_along.proofs.Stages.{IsAlong}
use Rattle.cook_along.proofs.along.reports_along.Given as goal

-- the turns before this one are told of
abbrev pub invariant-loop-turn : goal.invariant-loop-turn
invariant-loop-turn g l =
    IsAlong l.ground.problem.now.position l.moves (settings_in l.ground.settings.now) (map g.T.Stop.signal l.fn.stops.items) (map g.T.Stop.signal l.stops.items)
    l.turn l.problem.position l.stages.items l.crews.items
    × ArePolled l.ground.settings.now.workers (map g.T.Stop.signal l.fn.stops.items) (map g.T.Stop.signal l.stops.items)
