-- What a port tells of itself, and a run of a worker over it.
use Rattle.std.specs.Prelude.{◌≡◌, ◌≤◌, ◌+◌, ◌⊎◌, ◌++◌, ℕ, Bool, true, false, List, [], ◌∷◌, Option, Some, None, Result, Ok, Err, if◌then◌else◌}
use Rattle.search_limits.specs.declared.expansions.TheConstants.{MOST_EXPANSIONS}
use Rattle.board_core.specs.Board.{Board}
use Rattle.board_core.specs.declared.keys.Key.{Key}
use Rattle.notes.specs.declared.words.Seen.{Seen}
use Rattle.notes.specs.declared.words.Draw.TheVariants.{Done, Spent as AllDrawn}
use Rattle.notes.specs.declared.words.RoomAnswer.TheVariants.{NoRoom as Full}
use Rattle.visit_log.specs.declared.words.Request.{Request}
use Rattle.visit_log.specs.declared.words.Reply.{Reply}
use Rattle.visit_log.specs.declared.words.Reply.TheVariants.{Draw as Drew, Claim as Claimed, Look as Looked}
use Rattle.visit_log.specs.declared.parts.Stage.{Stage}
use Rattle.visit_log.specs.declared.parts.Stage.TheVariants.{Entering, Winding}
use Rattle.visit_log.specs.declared.words.WorkEnd.{WorkEnd}
use Rattle.visit_log.specs.Visit.{Exchange}
use Rattle.visit_log.specs.Frame.{Task}
use Rattle.visit_log.specs.Machine.{State, path_of}
use Rattle.visit_log.specs.Run.{WorkerView, Leads, Happens, Told, Dark}
use Rattle.visit_log.specs.Counts.{Words, own_slots, own_size, enters, leaves, enters_some, leaves_some, visits_in, rooms_in}

-- What a port tells: the problem; how many visits it gave; whether it goes on (it said neither that
-- all is done or spent nor that there is no room); which word each slot of a key's row has; how
-- often the slot of a word is entered and not left; how many slots that is in all; and for how many
-- notes it gave room.
pub record Book : Type 0 where
  pub problem : Board
  pub visits : ℕ
  pub going : Bool
  pub words : Words
  pub held : ℕ → ℕ
  pub size : ℕ
  pub rooms : ℕ

-- How many visits an event gives.
abbrev pub visits_by : Exchange → ℕ
visits_by (request, Some answer) = visits_in answer
visits_by (request, None) = 0

-- How much room for notes it gives.
abbrev pub rooms_by : Exchange → ℕ
rooms_by (request, Some answer) = rooms_in answer
rooms_by (request, None) = 0

-- Whether it says that nothing more is handed out.
abbrev pub ends_by : Option Reply → Bool
ends_by (Some (Drew Done)) = true
ends_by (Some (Drew AllDrawn)) = true
ends_by (Some (Claimed Full)) = true
ends_by answer = false

-- What an event changes in a port's book: what it enters, leaves and gives, and nothing else. At
-- most a billion visits are given.
pub record IsBooked (event : Exchange) (before after : Book) : Type 0 where
  pub problem : after.problem ≡ before.problem
  pub visits : after.visits ≡ before.visits + visits_by event
  pub most : before.visits ≤ MOST_EXPANSIONS → after.visits ≤ MOST_EXPANSIONS
  pub going : after.going ≡ (if ends_by event.1 then false else before.going)
  pub words : after.words ≡ before.words
  pub held : (word : ℕ) → after.held word + leaves before.words event word ≡ before.held word + enters before.words event word
  pub size : after.size + leaves_some event ≡ before.size + enters_some event
  pub rooms : after.rooms ≡ before.rooms + rooms_by event

-- The answer to a look; none where memory was wanting.
abbrev pub shown : {E : Type 0} → Result Seen E → Option Reply
shown (Ok seen) = Some (Looked seen)
shown (Err error) = None

-- A worker that stands in the one state makes this request, and the answer leads it to the other; a
-- look may be refused memory.
abbrev pub Goes : Task → State → Exchange → State → Type 0
Goes task s (request, Some answer) t = Happens task s (Told request answer) t
Goes task s (request, None) t = Happens task s (Dark request) t

-- A worker and the port went by these requests and answers, one after the other: the port's step is
-- that of a worker on this path, and the answer leads the worker on.
abbrev pub Went : {P : Type 0} → (P → List Key → Request → Option Reply → P → Type 0) → Task → P → State → List Exchange → P → State → Type 0
Went turn task before s [] after t = (before ≡ after) × (s ≡ t)
Went {P} turn task before s (event ∷ events) after t =
    (between : P) × (u : State) × turn before (path_of task s.frames) event.0 event.1 between × Goes task s event u
    × Went turn task between u events after t

-- 1 where a position is about to be entered, else 0.
abbrev pub entering : Stage → ℕ
entering Entering = 1
entering stage = 0

-- What a worker needs of a port to run over it: both are of one problem; the port goes on, or the
-- worker winds up; its own slots are held; and the port gave at least its visits, at most a
-- billion, and holds no more slots than it gave visits, with the one that is about to be entered.
pub record Suits (worker : WorkerView) (book : Book) : Type 0 where
  pub problem : worker.task.problem ≡ book.problem
  pub going : (book.going ≡ true) ⊎ ((end : WorkEnd) × (worker.state.stage ≡ Winding end))
  pub held : (word : ℕ) → own_slots book.words worker.state.frames word ≤ book.held word
  pub some : own_size worker.state.frames ≤ book.size
  pub visits : worker.state.visits ≤ book.visits
  pub size : book.size + entering worker.state.stage ≤ book.visits
  pub most : book.visits ≤ MOST_EXPANSIONS

-- What the port holds beside the worker's own slots, by their words, and gave beside the worker's
-- own visits and room, stays as it was.
pub record KeepsOthers (worker later : WorkerView) (before after : Book) : Type 0 where
  pub words : after.words ≡ before.words
  pub held : (word : ℕ) → after.held word + own_slots before.words worker.state.frames word
      ≡ before.held word + own_slots before.words later.state.frames word
  pub size : after.size + own_size worker.state.frames ≡ before.size + own_size later.state.frames
  pub visits : after.visits + worker.state.visits ≡ before.visits + later.state.visits
  pub rooms : after.rooms + worker.state.claims ≡ before.rooms + later.state.claims

-- The worker and the port went by one list of requests and answers: by whatever log the worker
-- stood where it did, it stands where that log leaves it with these behind.
pub record WentBy {P : Type 0} (turn : P → List Key → Request → Option Reply → P → Type 0) (before after : P) (worker later : WorkerView) (events : List Exchange) : Type 0 where
  pub port : Went turn worker.task before worker.state events after later.state
  pub task : later.task ≡ worker.task
  pub log : (log : List Exchange) → Leads worker.task log worker.state → Leads worker.task (log ++ events) later.state
