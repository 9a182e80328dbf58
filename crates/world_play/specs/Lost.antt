-- After how many looks of a schedule workers wound up: they were refused memory, or lent a note
-- that there was none to carry.
use Rattle.std.specs.Prelude.{◌≡◌, ◌+◌, ◌++◌, ◌&&◌, ℕ, Bool, false, List, [], ◌∷◌, Option, Some, None, if◌then◌else◌}
use Rattle.visit_log.specs.Visit.{Exchange}
use Rattle.visit_log.specs.Run.{WorkerView}
use Rattle.worker_core.specs.Machine.{looks_at, winds_at}
use Rattle.lone_port.specs.World.{World, Happens}
use Rattle.lone_port.specs.declared.event.Event.{Event}
use Rattle.lone_port.specs.declared.event.Event.TheVariants.{Step, Raise, Starve}
use Rattle.world_play.specs.Fair.{numbered}

-- Whether a worker looks next; one that isn't there doesn't.
abbrev pub looks_of : Option WorkerView → Bool
looks_of None = false
looks_of (Some worker) = looks_at worker.state.stage

-- Whether a worker winds up.
abbrev pub winds_of : Option WorkerView → Bool
winds_of None = false
winds_of (Some worker) = winds_at worker.state.stage

-- 1 where the event is a step of a worker that looks, and winds up behind it, else 0. (What a look
-- shows has it wind up only where there is no memory to carry that.)
abbrev pub lost_by : World → Event → World → ℕ
lost_by world (Step number) after = if looks_of (numbered world.workers number) && winds_of (numbered after.workers number) then 1 else 0
lost_by world (Raise number) after = 0
lost_by world (Starve number) after = 0

-- The events of a schedule happen, one after the other, with this log, and so many looks of it are
-- lost so.
abbrev pub Loses : World → List Event → List (ℕ × Exchange) → World → ℕ → Type 0
Loses world [] log after lost = (log ≡ []) × (world ≡ after) × (lost ≡ 0)
Loses world (event ∷ events) log after lost =
    (first : List (ℕ × Exchange)) × (rest : List (ℕ × Exchange)) × (between : World) × (more : ℕ) × Happens world event first between
    × Loses between events rest after more × (log ≡ first ++ rest) × (lost ≡ lost_by world event between + more)
