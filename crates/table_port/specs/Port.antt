-- A port of the shared table and the shared desk: what it tells of itself, and what each request
-- does.
use Rattle.std.specs.Prelude.{◌≡◌, ◌*◌, ◌/◌, ◌==◌, ◌&&◌, ℕ, Bool, List, [], Option, Some, None, length}
use Rattle.board_core.specs.declared.keys.Key.{Key}
use Rattle.notes.specs.declared.words.Kept.TheVariants.{Slot, Unkept}
use Rattle.search_gate.specs.Stop.{Signal, polled}
use Rattle.table_shard.specs.Row.{LooksBy}
use Rattle.table_shard.specs.Shard.{row_of}
use Rattle.table_shard.specs.Spot.{place_of, word_of}
use Rattle.visit_log.specs.declared.words.Request.{Request}
use Rattle.visit_log.specs.declared.words.Request.TheVariants.{Poll, Draw, Claim, Look, Enter, Leave, Post}
use Rattle.visit_log.specs.declared.words.Reply.{Reply}
use Rattle.visit_log.specs.declared.words.Reply.TheVariants.{Poll as Polled, Draw as Drew, Claim as Claimed, Look as Looked, Enter as Entered, Leave as LeftIt, Post as PostedIt}
use Rattle.word_desk.specs.WordDesk.{DeskSeatView, Draws, Claims, Posts}
use Rattle.worker_core.specs.Port.{Book}
use Rattle.worker_counts.specs.Counts.{times}
use Rattle.shared_table.specs.Calls.{EntersAndAdds, LeavesAndSubtracts}
use Rattle.shared_table.specs.Rows.{ShardRows, RanOn}
use Rattle.shared_table.specs.Seat.{RowSeatView, at_row, Loads}
use Rattle.table_port.specs.declared.parts.Cut.{Cut}

-- 1. WHAT IT IS.

-- All rows.
abbrev pub all_rows : Cut → ℕ
all_rows cut = cut.shards * cut.own

-- Which shard has a key's row.
abbrev pub shard_of : Cut → Key → ℕ
shard_of cut key = place_of key (all_rows cut) / cut.own

-- Which word counts the workers below the first slot of that row.
abbrev pub first_word : Cut → Key → ℕ
first_word cut key = word_of (all_rows cut) key 0

-- The rows of each shard, where they are told; its seat at the words that count workers; and its
-- seat at the desk.
pub record TablePortView : Type 0 where
  pub cut : Cut
  pub shards : Option (List ShardRows)
  pub seat : RowSeatView
  pub desk : DeskSeatView

-- Seats that have added, drawn and claimed nothing.
pub record IsUnused (seat : RowSeatView) (desk : DeskSeatView) : Type 0 where
  pub added : seat.seat.view.added ≡ []
  pub visits : desk.visits ≡ []
  pub draws : desk.draw_ends ≡ 0
  pub claims : desk.claim_ends ≡ 0

-- It goes on: each draw got a visit, and each claim room.
abbrev pub is_going : DeskSeatView → Bool
is_going desk = (desk.draw_ends == 0) && (desk.claim_ends == 0)

-- What it tells of itself: its worker's own, since what others draw, claim and enter is theirs.
abbrev pub book_of : TablePortView → Book
book_of port = record {
  problem = port.desk.desk.position;
  visits = length port.desk.visits;
  going = is_going port.desk;
  words = word_of (all_rows port.cut);
  held = λ word. times word port.seat.seat.view.added;
  size = length port.seat.seat.view.added;
  rooms = length port.desk.claims;
}

-- 2. WHAT EACH REQUEST DOES.

-- A task ran on the shard of the key, with the seat at the words of the key's row; nothing else
-- changes.
abbrev pub RunsOn : TablePortView → Key → TablePortView → (RowSeatView → ShardRows → ShardRows → RowSeatView → Type 0) → Type 0
RunsOn before key after ran =
    RanOn before.desk.desk.position.side before.shards after.shards (shard_of before.cut key) (λ old new. ran (at_row before.seat (first_word before.cut key)) old new after.seat)
    × (after ≡ record before { shards = after.shards; seat = after.seat })

-- From one state to the next, by a request of a worker on this path and its answer, with what a
-- stop tells before and after. A poll asks the stop. The desk draws, claims, and keeps what is
-- posted first. The key's shard shows what it has, or there is no memory for it; it enters the key,
-- and the seat adds to the slot's word; it leaves the key, and the seat subtracts.
abbrev pub TableTurns : TablePortView → Signal → List Key → Request → Option Reply → TablePortView → Signal → Type 0
TableTurns before signal path Poll (Some (Polled stop)) after later = (after ≡ before) × (later ≡ polled signal stop)
TableTurns before signal path Draw (Some (Drew draw)) after later =
    Draws before.desk draw after.desk × (after ≡ record before { desk = after.desk }) × (later ≡ signal)
TableTurns before signal path Claim (Some (Claimed claim)) after later =
    Claims before.desk claim after.desk × (after ≡ record before { desk = after.desk }) × (later ≡ signal)
TableTurns before signal path (Look key) (Some (Looked seen)) after later =
    RunsOn before key after (λ seat old new last. (new ≡ old) × LooksBy Loads before.cut.to (row_of old key) key path seat seen last) × (later ≡ signal)
TableTurns before signal path (Look key) None after later =
    RunsOn before key after (λ seat old new last. (new ≡ old) × (seat ≡ last)) × (later ≡ signal)
TableTurns before signal path (Enter key numbers) (Some (Entered kept)) after later =
    RunsOn before key after (λ seat old new last. EntersAndAdds old seat key numbers kept new last) × (later ≡ signal)
TableTurns before signal path (Leave (Slot slot) key update) (Some LeftIt) after later =
    RunsOn before key after (λ seat old new last. LeavesAndSubtracts old seat (Slot slot) key update new last) × (later ≡ signal)
TableTurns before signal path (Leave Unkept key update) (Some LeftIt) after later = (after ≡ before) × (later ≡ signal)
TableTurns before signal path (Post note) (Some PostedIt) after later =
    Posts before.desk note after.desk × (after ≡ record before { desk = after.desk }) × (later ≡ signal)
TableTurns before signal path request answer after later = ⊥
