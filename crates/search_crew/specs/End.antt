-- How a search by several workers ended.
use Rattle.std.specs.Prelude.{◌≡◌, ◌≢◌, ◌<◌, ◌≤◌, ℕ, suc, List, [], ◌∷◌, Some, All, sum_by, length, slice_get}
use Rattle.board_core.specs.Board.{Board}
use Rattle.notes.specs.declared.note.TheConstants.{HEIGHT_LIMIT}
use Rattle.search_gate.specs.Polls.{IsPolled}
use Rattle.search_gate.specs.Stop.{Signal, one_more}
use Rattle.search_limits.specs.Sizes.{SettingsView}
use Rattle.search_limits.specs.declared.cause.Cause.{Cause}
use Rattle.search_limits.specs.declared.cause.Cause.TheVariants.{Expansions, Room, Height, Stopped as StoppedFirst, Entries}
use Rattle.visit_log.specs.declared.words.WorkEnd.{WorkEnd}
use Rattle.visit_log.specs.declared.words.WorkEnd.TheVariants.{Posted, Spent, NoRoom, TooHigh, Stopped}
use Rattle.visit_log.specs.Frame.{task_for}
use Rattle.visit_log.specs.Machine.{end_of}
use Rattle.visit_log.specs.Run.{WorkerView, IsReached}
use Rattle.visit_log.specs.Sound.{IsAnswer}
use Rattle.visit_log.specs.Visit.{Exchange, IsVisitLog}
use Rattle.notes.specs.Derivation.{Derivation}
use Rattle.unit_desk.specs.Known.{ReachesAt, IsFirstSaid}
use Rattle.search_pool.specs.End.{IsAloneUntil, IsUntilWith, IsSolved, HeedsStop, polls_after}
use Rattle.search_pool.specs.declared.end.SearchEnd.{SearchEnd}
use Rattle.search_pool.specs.declared.end.SearchEnd.TheVariants.{Solved, Unknown}

-- 1. A WORKER.

-- What became of a worker's stop: where the worker ended as stopped, it signalled, once, and was
-- polled no more; else it didn't signal.
abbrev pub HeedsOwn : Signal → Signal → WorkEnd → Type 0
HeedsOwn before after Stopped = (after.raised ≡ one_more before.raised) × (after.last ≡ after.polls)
HeedsOwn before after end = after.raised ≡ before.raised

-- The worker of this number has searched the problem: what it asked and was told is a whole visit
-- log, by which it ended. Its stop, which told this before and after, was polled at each of its
-- polls and at no other time, and not armed.
pub record HasSearched (problem : Board) (number : ℕ) (before after : Signal) (worker : WorkerView) : Type 0 where
  pub task : worker.task ≡ task_for problem number
  pub log : List Exchange
  pub reached : IsReached worker log
  pub end : WorkEnd
  pub ended : end_of worker.state ≡ Some end
  pub whole : IsVisitLog worker.task log end
  pub polled : IsPolled before after
  pub polls : after.polls ≡ polls_after log before.polls
  pub heeds : HeedsOwn before after end

-- The workers from this number on have searched the problem, each with the stop at its place; the
-- stops beyond are as they were.
abbrev pub HaveSearched : Board → ℕ → List Signal → List Signal → List WorkerView → Type 0
HaveSearched problem number before after [] = after ≡ before
HaveSearched problem number (old ∷ before) (new ∷ after) (worker ∷ workers) =
    HasSearched problem number old new worker × HaveSearched problem (suc number) before after workers
HaveSearched problem number before after workers = ⊥

-- 2. ALL OF THEM.

-- The worker ended so.
abbrev pub EndedSo : WorkEnd → WorkerView → Type 0
EndedSo end worker = end_of worker.state ≡ Some end

-- It didn't.
abbrev pub EndedOtherwise : WorkEnd → WorkerView → Type 0
EndedOtherwise end worker = end_of worker.state ≢ Some end

-- One of the workers ended so.
abbrev pub OneEnded : WorkEnd → List WorkerView → Type 0
OneEnded end crew = (place : ℕ) × (worker : WorkerView) × (slice_get crew place ≡ Some worker) × EndedSo end worker

-- None of them did.
abbrev pub NoneEnded : WorkEnd → List WorkerView → Type 0
NoneEnded end crew = All (EndedOtherwise end) crew

-- The worker of this number is the first that ended so.
pub record IsFirstEnded (end : WorkEnd) (crew : List WorkerView) (number : ℕ) : Type 0 where
  pub place : ℕ
  pub numbered : number ≡ suc place
  pub worker : WorkerView
  pub there : slice_get crew place ≡ Some worker
  pub ended : EndedSo end worker
  pub first : (earlier : ℕ) (other : WorkerView) → earlier < place → slice_get crew earlier ≡ Some other → EndedOtherwise end other

-- Why a crew gave up, the first of these that holds. Expansions: one had no visit any more, and all
-- visits were drawn by them, so many. Room: one had no room for a note, and they claimed it all.
-- Height: one came upon a note that would have been too high. Stopped: this worker is the first
-- that was stopped.
abbrev pub GaveUpFor : SettingsView → List WorkerView → Cause → Type 0
GaveUpFor s crew (Expansions number) =
    (number ≡ s.expansions) × OneEnded Spent crew × (sum_by (λ worker. worker.state.visits) crew ≡ number)
GaveUpFor s crew (Room number) =
    (number ≡ s.room) × NoneEnded Spent crew × OneEnded NoRoom crew × (sum_by (λ worker. worker.state.claims) crew ≡ number)
GaveUpFor s crew (Height number) = (number ≡ HEIGHT_LIMIT) × NoneEnded Spent crew × NoneEnded NoRoom crew × OneEnded TooHigh crew
GaveUpFor s crew (StoppedFirst number) =
    NoneEnded Spent crew × NoneEnded NoRoom crew × NoneEnded TooHigh crew × IsFirstEnded Stopped crew number
GaveUpFor s crew (Entries number) = ⊥

-- 3. THE SEARCH.

-- These are the workers of a search with the settings, as many as these say: each has searched the
-- problem, with the stop at its place, and together they had no more visits and no more room than
-- the settings allow.
pub record IsCrewOf (problem : Board) (s : SettingsView) (before after : List Signal) (crew : List WorkerView) : Type 0 where
  pub number : length crew ≡ s.workers
  pub searched : HaveSearched problem 1 before after crew
  pub visits : sum_by (λ worker. worker.state.visits) crew ≤ s.expansions
  pub claims : sum_by (λ worker. worker.state.claims) crew ≤ s.room

-- How a search by several workers ended. With a note: it answers the problem, that is, it is valid,
-- holds on every path, is about the problem's position and for its attacker; and such workers have
-- searched. Without one: with all its workers as they ended, none of them with a posted note, and
-- the cause why they gave up.
abbrev pub IsCrewEnd : Board → SettingsView → List Signal → List Signal → SearchEnd → Type 0
IsCrewEnd problem s before after (Solved note) =
    IsAnswer (task_for problem 1) note × ((crew : List WorkerView) × IsCrewOf problem s before after crew)
IsCrewEnd problem s before after (Unknown cause crew) = IsCrewOf problem s before after crew × NoneEnded Posted crew × GaveUpFor s crew cause

-- What the first stop tells.
abbrev pub FirstHeeded : (Signal → Signal → Type 0) → List Signal → List Signal → Type 0
FirstHeeded heeds (old ∷ before) (new ∷ after) = heeds old new
FirstHeeded heeds before after = ⊥

-- How a search with these settings ended: with one worker as the search of one worker does, which
-- polls the first stop; with more as a crew does.
pub record IsSearchEnd (problem : Board) (s : SettingsView) (before after : List Signal) (end : SearchEnd) : Type 0 where
  pub alone : s.workers ≡ 1 → FirstHeeded (λ old new. IsAloneUntil problem s old new end × HeedsStop old new end) before after
  pub crew : 2 ≤ s.workers → IsCrewEnd problem s before after end

-- 4. FROM NOTES THAT ARE KNOWN.

-- None of the notes is about the problem's position, or may be carried to it.
abbrev pub NoneReaches : Board → List Derivation → Type 0
NoneReaches problem notes = (place : ℕ) → ¬ ReachesAt problem notes place

-- How a search with these settings ended in which these notes were known before anybody searched:
-- with one worker as the search of one worker does in which they are, which heeds its stop unless a
-- note reaches the problem; with more as a crew does, where none reaches it, and else with what the
-- first of them says, while nobody searched; and solved, where a note reaches the problem.
pub record IsSearchEndWith (notes : List Derivation) (problem : Board) (s : SettingsView) (before after : List Signal) (end : SearchEnd) : Type 0 where
  pub alone : s.workers ≡ 1
      → FirstHeeded (λ old new. IsUntilWith notes problem s old new end × (NoneReaches problem notes → HeedsStop old new end)) before after
  pub crew : 2 ≤ s.workers → NoneReaches problem notes → IsCrewEnd problem s before after end
  pub known : 2 ≤ s.workers → (said : Derivation) → IsFirstSaid problem notes (Some said) → (end ≡ Solved said) × (after ≡ before)
  pub solved : (place : ℕ) → ReachesAt problem notes place → IsSolved end
