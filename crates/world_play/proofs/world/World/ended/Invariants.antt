use Rattle.std.proofs.Common.{◌≡◌, ◌<◌, ℕ}
use Rattle.std.specs.Prelude.{Some, slice_get}
use Rattle.visit_log.specs.Run.{WorkerView}
use Rattle.world_play.specs.Promises.{HasEnded}
use Rattle.world_play.proofs.world.World.ended.Given as goal

-- the workers so far have ended
abbrev pub invariant-loop-worker : goal.invariant-loop-worker
invariant-loop-worker l = (place : ℕ) → place < l.worker-index → (worker : WorkerView) → slice_get l.self.workers place ≡ Some worker → HasEnded worker
