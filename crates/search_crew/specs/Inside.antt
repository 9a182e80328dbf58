-- What the private functions of this crate say of one another; no public clause cites these.
use Rattle.std.specs.Prelude.{◌≤◌, ◌≡◌, ◌<◌, ℕ, suc, Option, None, true, List, [], ◌∷◌, IfSome, IsSome, IsNone, length, sum_by}
use Rattle.atomic_table.specs.Seated.{TableId}
use Rattle.board_core.specs.Board.{Board}
use Rattle.notes.specs.Derivation.{Derivation}
use Rattle.search_gate.specs.Stop.{Signal}
use Rattle.search_limits.specs.Sizes.{SettingsView}
use Rattle.visit_log.specs.declared.words.WorkEnd.TheVariants.{Posted, Spent, NoRoom}
use Rattle.visit_log.specs.Run.{WorkerView}
use Rattle.lone_port.specs.Lone.{worker_at_first}
use Rattle.unit_desk.specs.Desk.{IsAnswerTo}
use Rattle.word_desk.specs.WordDesk.{WordDeskView, DeskSeatView, unused, joined}
use Rattle.shared_table.specs.Seat.{RowSeatView}
use Rattle.table_port.specs.Port.{TablePortView}
use Rattle.table_port.specs.declared.parts.Cut.{Cut}
use Rattle.worker_counts.specs.declared.view.TheConstants.{MOST_SEATS}
use Rattle.worker_counts.specs.declared.view.View.{View}
use Rattle.search_crew.specs.End.{HasSearched, HaveSearched, EndedSo, OneEnded}

-- 1. A WORKER WITH ITS PORT.

-- The worker, and of its port how the table is cut, its seats, and what its stop tells.
pub record LaneView : Type 0 where
  pub worker : WorkerView
  pub cut : Cut
  pub seat : RowSeatView
  pub desk : DeskSeatView
  pub signal : Signal

-- A port with these, whose rows aren't told.
abbrev pub port_of : Cut → RowSeatView → DeskSeatView → TablePortView
port_of its_cut its_seat its_desk = record { cut = its_cut; shards = None; seat = its_seat; desk = its_desk }

-- A seat has all parts of its words, and has added nothing to them.
abbrev pub IsAtFirst : View → Type 0
IsAtFirst view = (view.added ≡ []) × (view.parts ≡ MOST_SEATS)

-- What a crew shares: its problem, the words that count workers, and the desk.
pub record Shared : Type 0 where
  pub problem : Board
  pub words : TableId
  pub desk : WordDeskView

-- It shares these.
abbrev pub shares : Board → TableId → WordDeskView → Shared
shares its_problem its_words its_desk = record { problem = its_problem; words = its_words; desk = its_desk }

-- The worker of this number hasn't begun, nor have its seats, which are at what the crew shares.
pub record IsFresh (shared : Shared) (number : ℕ) (lane : LaneView) : Type 0 where
  pub worker : lane.worker ≡ worker_at_first shared.problem number
  pub counts : lane.seat.seat.counts ≡ shared.words
  pub added : lane.seat.seat.view.added ≡ []
  pub desk : lane.desk ≡ unused shared.desk 1

-- So are those from this number on.
abbrev pub AreFresh : Shared → ℕ → List LaneView → Type 0
AreFresh shared number [] = Unit {0}
AreFresh shared number (lane ∷ lanes) = IsFresh shared number lane × AreFresh shared (suc number) lanes

-- The worker of this number has searched, and its seats tell what it drew, claimed and met; it has
-- left all that it had entered.
pub record IsDone (shared : Shared) (number : ℕ) (before after : Signal) (lane : LaneView) : Type 0 where
  pub searched : HasSearched shared.problem number before after lane.worker
  pub counts : lane.seat.seat.counts ≡ shared.words
  pub added : lane.seat.seat.view.added ≡ []
  pub desk : lane.desk.desk ≡ shared.desk
  pub visits : length lane.desk.visits ≡ lane.worker.state.visits
  pub claims : length lane.desk.claims ≡ lane.worker.state.claims
  pub spent : EndedSo Spent lane.worker → 0 < lane.desk.draw_ends
  pub full : EndedSo NoRoom lane.worker → 0 < lane.desk.claim_ends
  pub posted : EndedSo Posted lane.worker → lane.desk.met ≡ true

-- Where it was fresh, it has searched.
abbrev pub HasWorked : LaneView → LaneView → Type 0
HasWorked lane later = (shared : Shared) (number : ℕ) → IsFresh shared number lane → IsDone shared number lane.signal later.signal later

-- Those from this number on have searched, each with the stop at its place; the stops beyond are as
-- they were.
abbrev pub AreDone : Shared → ℕ → List Signal → List Signal → List LaneView → Type 0
AreDone shared number before after [] = after ≡ before
AreDone shared number (old ∷ before) (new ∷ after) (lane ∷ lanes) =
    IsDone shared number old new lane × AreDone shared (suc number) before after lanes
AreDone shared number before after lanes = ⊥

-- 2. THE SEATS COME BACK.

-- A worker's seats are at these words and this desk, and it has left all that it had entered.
pub record IsAtRest (words : TableId) (its_desk : WordDeskView) (lane : LaneView) : Type 0 where
  pub counts : lane.seat.seat.counts ≡ words
  pub added : lane.seat.seat.view.added ≡ []
  pub desk : lane.desk.desk ≡ its_desk

-- The desk's first seat, once those of all workers are joined to it, the last worker's first.
abbrev pub joined_all : DeskSeatView → List LaneView → DeskSeatView
joined_all seat [] = seat
joined_all seat (lane ∷ lanes) = joined (joined_all seat lanes) lane.desk

-- The workers of a crew have searched, each with the stop at its place; and what they drew, claimed
-- and met, the desk's seat tells to which theirs were joined.
pub record CrewTells (shared : Shared) (before after : List Signal) (crew : List WorkerView) (seat : DeskSeatView) : Type 0 where
  pub searched : HaveSearched shared.problem 1 before after crew
  pub desk : seat.desk ≡ shared.desk
  pub visits : length seat.visits ≡ sum_by (λ worker. worker.state.visits) crew
  pub claims : length seat.claims ≡ sum_by (λ worker. worker.state.claims) crew
  pub spent : OneEnded Spent crew → 0 < seat.draw_ends
  pub full : OneEnded NoRoom crew → 0 < seat.claim_ends
  pub posted : OneEnded Posted crew → seat.met ≡ true

-- What the close of its desk tells of a crew, with the note that was posted first: it answers the
-- problem; it is there where a worker ended with one; no more is drawn and claimed than may be;
-- where there is none and a worker had no visit any more, all are drawn; and where one had no room,
-- all is claimed.
pub record ClosesCrew (s : SettingsView) (problem : Board) (crew : List WorkerView) (note : Option Derivation) : Type 0 where
  pub answer : IfSome note (IsAnswerTo problem)
  pub posted : OneEnded Posted crew → IsSome note
  pub visits : sum_by (λ worker. worker.state.visits) crew ≤ s.expansions
  pub claims : sum_by (λ worker. worker.state.claims) crew ≤ s.room
  pub spent : IsNone note → OneEnded Spent crew → sum_by (λ worker. worker.state.visits) crew ≡ s.expansions
  pub full : OneEnded NoRoom crew → sum_by (λ worker. worker.state.claims) crew ≡ s.room
