-- What a world that is written down keeps.
use Rattle.std.specs.Prelude.{◌≡◌, length}
use Rattle.lone_port.specs.Lone.{book_of}
use Rattle.lone_port.specs.World.{World}
use Rattle.world_play.specs.Crew.{IsCrew}

-- What the table and the desk count is what the workers have, all together; and of each worker it
-- is known whether a stop was signalled to it.
pub record IsTold (world : World) : Type 0 where
  pub crew : IsCrew (book_of world.port) world.workers
  pub of_each : length world.raised ≡ length world.workers
