-- Workers over any port: what it holds, and the visits that it gave, are what they have, all
-- together; and what a turn of one of them does.
use Rattle.std.specs.Prelude.{◌≡◌, ◌≤◌, ◌<◌, ◌++◌, ℕ, false, List, [], ◌∷◌, Option, Some, None, IfSome, IfNone, MatchOption, length, slice_get, slice_set}
use Rattle.search_limits.specs.declared.expansions.TheConstants.{MOST_EXPANSIONS}
use Rattle.board_core.specs.Board.{Board}
use Rattle.board_core.specs.declared.keys.Key.{Key}
use Rattle.visit_log.specs.declared.words.WorkEnd.{WorkEnd}
use Rattle.visit_log.specs.declared.words.Request.{Request}
use Rattle.visit_log.specs.declared.words.Reply.{Reply}
use Rattle.visit_log.specs.Visit.{Exchange}
use Rattle.visit_log.specs.Machine.{State, asks, asked, starve, end_of}
use Rattle.visit_log.specs.Run.{WorkerView, Leads, IsLooking}
use Rattle.visit_log.specs.Sound.{IsTask}
use Rattle.visit_log.specs.Counts.{to_come}
use Rattle.visit_log.specs.Laws.{IsLeftAlone}
use Rattle.worker_core.specs.Port.{Book, Suits, KeepsOthers, WentBy}
use Rattle.world_play.specs.Fair.{all_slots, all_sizes, all_visits}

-- The worker searches the problem, no request of its waits, and it stands by some log.
pub record IsInCrew (position : Board) (worker : WorkerView) : Type 0 where
  pub of_problem : worker.task.problem ≡ position
  pub task : IsTask worker.task
  pub idle : worker.waiting ≡ false
  pub log : List Exchange
  pub leads : Leads worker.task log worker.state

-- The port holds what the workers have entered, all together, and gave the visits that they were
-- given, at most a billion (of room nothing is said); and all are in the search of its problem.
pub record IsCrew (book : Book) (workers : List WorkerView) : Type 0 where
  pub held : (word : ℕ) → book.held word ≡ all_slots book.words workers word
  pub size : book.size ≡ all_sizes workers
  pub visits : book.visits ≡ all_visits workers
  pub most : book.visits ≤ MOST_EXPANSIONS
  pub members : (place : ℕ) (worker : WorkerView) → slice_get workers place ≡ Some worker → IsInCrew book.problem worker

-- The worker stood at the place, and another stands there now; the others stay as they were.
pub record ChangesAt (workers : List WorkerView) (place : ℕ) (worker next : WorkerView) (later : List WorkerView) : Type 0 where
  pub there : slice_get workers place ≡ Some worker
  pub others : later ≡ slice_set workers place next

-- One request of the worker was answered by the port, and by whatever log it stood, it stands by
-- that log with the request and the answer behind; where it had none, it had ended so, and nothing
-- changes. What the port holds and gave beside the worker's own stays as it was. The port suits the
-- worker as it stands then, and with a request less is still to come.
pub record IsTurned {P : Type 0} (turn : P → List Key → Request → Option Reply → P → Type 0) (book : P → Book) (port after : P) (worker next : WorkerView) (result : Option WorkEnd) : Type 0 where
  pub events : List Exchange
  pub went : WentBy turn port after worker next events
  pub one : MatchOption result (length events ≡ 1) (λ end. length events ≡ 0)
  pub others : KeepsOthers worker next (book port) (book after)
  pub suits : Suits next (book after)
  pub less : IfNone result (to_come next.state < to_come worker.state)
  pub ended : IfSome result (λ end. end_of next.state ≡ Some end)

-- The worker was starved: by whatever log it stood, it stands by that log still, and by that with a
-- look behind that was refused memory, where it looks. What it has entered and was given stays as
-- it was.
pub record IsStarved (worker next : WorkerView) : Type 0 where
  pub starved : next ≡ record { task = worker.task; state = starve worker.state; waiting = false }
  pub log : (log : List Exchange) → Leads worker.task log worker.state → Leads worker.task log next.state
  pub dark : (log : List Exchange) (s : State) → Leads worker.task log s → worker.state ≡ asked s → IsLooking s.stage
      → Leads worker.task (log ++ (asks s, None) ∷ []) next.state
  pub alone : IsLeftAlone worker.state next.state
