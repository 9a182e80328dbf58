use Rattle.std.proofs.Common.{◌≤◌, take}
use Rattle.world_play.proofs.Happened.{Played}
use Rattle.world_play.proofs.world.World.play.Given as goal

-- the events so far happened, so many looks lost
abbrev pub invariant-loop-event : goal.invariant-loop-event
invariant-loop-event l = Played l.initial.self (take l.event-index l.events) l.lost l.self × (l.lost ≤ l.event-index)
