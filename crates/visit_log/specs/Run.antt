-- What may happen to a worker, one thing after the other; by which logs it stands where it does.
use Rattle.std.specs.Prelude.{◌≡◌, ◌++◌, Bool, List, [], ◌∷◌, Some, None, if◌then◌else◌}
use Rattle.visit_log.specs.declared.parts.Stage.{Stage}
use Rattle.visit_log.specs.declared.parts.Stage.TheVariants.{Looking}
use Rattle.visit_log.specs.declared.words.WorkEnd.{WorkEnd}
use Rattle.visit_log.specs.declared.words.Request.{Request}
use Rattle.visit_log.specs.declared.words.Reply.{Reply}
use Rattle.visit_log.specs.Frame.{Task}
use Rattle.visit_log.specs.Visit.{Exchange, IsVisitLog}
use Rattle.visit_log.specs.Machine.{State, start, starve, asks, asked, Fits, LeadsTo}

-- What happens: an answer to a request; a look that is refused memory; it is starved.
pub data Happening : Type 0 where
  Told : Request → Reply → Happening
  Dark : Request → Happening
  Starved : Happening

-- The worker is about to look.
abbrev pub IsLooking : Stage → Type 0
IsLooking (Looking place) = Unit {0}
IsLooking stage = ⊥

-- It happens to a worker that stands in the one state, and leaves it in the other.
abbrev pub Happens : Task → State → Happening → State → Type 0
Happens task s (Told request answer) t = (request ≡ asks s) × Fits task s answer × LeadsTo task s answer t
Happens task s (Dark request) t = (request ≡ asks s) × IsLooking s.stage × (t ≡ starve s)
Happens task s Starved t = t ≡ starve s

-- These things happen, one after the other.
abbrev pub Runs : Task → State → List Happening → State → Type 0
Runs task s [] t = s ≡ t
Runs task s (happening ∷ happenings) t = (u : State) × Happens task s happening u × Runs task u happenings t

-- What stands of it in the log.
abbrev pub event : Happening → List Exchange
event (Told request answer) = (request, Some answer) ∷ []
event (Dark request) = (request, None) ∷ []
event Starved = []

-- What stands of these things in the log.
abbrev pub events : List Happening → List Exchange
events [] = []
events (happening ∷ happenings) = event happening ++ events happenings

-- The worker of the task comes to stand in the state by this log.
pub record Leads (task : Task) (log : List Exchange) (s : State) : Type 0 where
  pub happenings : List Happening
  pub runs : Runs task (start task) happenings s
  pub logged : events happenings ≡ log

-- A worker as its callers see it; where a request waits for its answer, the state is that once it
-- was asked.
pub record WorkerView : Type 0 where
  pub task : Task
  pub state : State
  pub waiting : Bool

-- The state, once it was asked where it waits for the answer.
abbrev pub now_at : Bool → State → State
now_at waiting s = if waiting then asked s else s

-- The worker stands where this log leaves it.
pub record IsReached (worker : WorkerView) (log : List Exchange) : Type 0 where
  pub state : State
  pub leads : Leads worker.task log state
  pub now : worker.state ≡ now_at worker.waiting state

-- A log that is the beginning of a visit log.
pub record IsBegunLog (task : Task) (log : List Exchange) : Type 0 where
  pub rest : List Exchange
  pub end : WorkEnd
  pub whole : IsVisitLog task (log ++ rest) end
