use Rattle.std.proofs.Common.{◌≡◌, false, replicate}
use Rattle.lone_port.specs.World.{workers_from}
use Rattle.world_play.proofs.world.idle_crew.Given as goal

-- the workers so far, to none of which a stop was signalled
abbrev pub invariant-loop-place : goal.invariant-loop-place
invariant-loop-place l = record {
  workers : l.workers.items ≡ workers_from l.problem.position 1 l.place;
  raised : l.raised.items ≡ replicate l.place false;
}
