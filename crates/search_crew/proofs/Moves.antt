-- What one request does to a port's seats.
use Rattle.std.proofs.Common.{◌≡◌, ◌≤◌, ◌<◌, ◌+◌, ◌⊎◌, inl, inr, List, ◌∷◌, refl, sym, ap, ◌∙◌, subst, arith, Bool, true, false}
use Rattle.std.specs.Prelude.{ℕ, Option, Some, None}
use Rattle.std.proofs.lemmas.Bool.{false≢true}
use Rattle.board_core.specs.declared.keys.Key.{Key}
use Rattle.pn_numbers.specs.declared.numbers.Numbers.{Numbers}
use Rattle.notes.specs.Derivation.{Derivation}
use Rattle.notes.specs.declared.words.Draw.TheVariants.{Go, Done, Spent as AllDrawn}
use Rattle.notes.specs.declared.words.RoomAnswer.TheVariants.{Room, NoRoom as Full}
use Rattle.notes.specs.declared.words.Kept.{Kept}
use Rattle.notes.specs.declared.words.Kept.TheVariants.{Slot, Unkept}
use Rattle.notes.specs.declared.words.Seen.{Seen}
use Rattle.notes.specs.declared.words.Update.{Update}
use Rattle.search_gate.specs.Stop.{Signal, polled}
use Rattle.table_shard.specs.Row.{LooksBy}
use Rattle.table_shard.specs.Shard.{row_of}
use Rattle.visit_log.specs.declared.words.Request.{Request}
use Rattle.visit_log.specs.declared.words.Request.TheVariants.{Poll, Draw as Draws, Claim as Claims, Look, Enter, Leave, Post, End}
use Rattle.visit_log.specs.declared.words.Reply.{Reply}
use Rattle.visit_log.specs.declared.words.Reply.TheVariants.{Poll as Polled, Draw as Drew, Claim as Claimed, Look as Looked, Enter as Entered, Leave as LeftIt, Post as PostedIt}
use Rattle.visit_log.specs.Visit.{Exchange}
use Rattle.word_desk.specs.WordDesk.{DeskSeatView, Posts}
use Rattle.shared_table.specs.Calls.{EntersAndAdds, LeavesAndSubtracts, AddsKept}
use Rattle.shared_table.specs.Rows.{ShardRows, RanOn}
use Rattle.shared_table.specs.Seat.{RowSeatView, at_row, Loads}
use Rattle.shared_table.proofs.Offered.{same_looked}
use Rattle.table_port.specs.Port.{TablePortView, TableTurns, shard_of, first_word}
use Rattle.table_port.proofs.Offered.{ran_some}
use Rattle.worker_core.specs.Machine.{is_poll}
use Rattle.search_pool.specs.Inside.{says_spent, says_full, says_posted, says_stop}

-- 1. THE DESK'S SEAT.

-- It is at the same desk; what it got none of it got none of from then on, and what it met it has
-- met; and what the reply says of that is so.
pub record DeskMoves (before : DeskSeatView) (x : Exchange) (after : DeskSeatView) : Type 0 where
  pub desk : after.desk ≡ before.desk
  pub draws : before.draw_ends ≤ after.draw_ends
  pub claims : before.claim_ends ≤ after.claim_ends
  pub met : before.met ≡ true → after.met ≡ true
  pub spent : says_spent x ≡ true → 0 < after.draw_ends
  pub full : says_full x ≡ true → 0 < after.claim_ends
  pub posted : says_posted x ≡ true → after.met ≡ true

-- And the other seat is at the same words; and who asks nothing of a stop is told nothing of it.
pub record Moves (before : TablePortView) (x : Exchange) (after : TablePortView) : Type 0 where
  pub desk : DeskMoves before.desk x after.desk
  pub counts : after.seat.seat.counts ≡ before.seat.seat.counts
  pub silent : is_poll x.0 ≡ false → says_stop x ≡ false

-- Visits and claims alone come, and nothing is said.
unmoved : (seat : DeskSeatView) (x : Exchange) {its_visits its_claims : List ℕ} → says_spent x ≡ false → says_full x ≡ false → says_posted x ≡ false
    → DeskMoves seat x (record seat { visits = its_visits; claims = its_claims })
unmoved seat x one two three = record {
  desk = refl;
  draws = omega arith;
  claims = omega arith;
  met = λ m. m;
  spent = λ e. absurd (false≢true (sym one ∙ e));
  full = λ e. absurd (false≢true (sym two ∙ e));
  posted = λ e. absurd (false≢true (sym three ∙ e));
}

still : (before after : TablePortView) (x : Exchange) → after.desk ≡ before.desk → after.seat.seat.counts ≡ before.seat.seat.counts
    → says_spent x ≡ false → says_full x ≡ false → says_posted x ≡ false → (is_poll x.0 ≡ false → says_stop x ≡ false) → Moves before x after
still before after x desk counts one two three silent = record {
  desk = subst (λ (d : DeskSeatView). DeskMoves before.desk x d) (sym desk) (unmoved before.desk x one two three);
  counts = counts;
  silent = silent;
}

drawn : (before after : TablePortView) (x : Exchange) → after ≡ record before { desk = after.desk } → (seat : DeskSeatView) → after.desk ≡ seat → DeskMoves before.desk x seat
    → (is_poll x.0 ≡ false → says_stop x ≡ false) → Moves before x after
drawn before after x is seat e m silent = record {
  desk = subst (λ (d : DeskSeatView). DeskMoves before.desk x d) (sym e) m;
  counts = ap (λ (p : TablePortView). p.seat.seat.counts) is;
  silent = silent;
}

seated : (before after : TablePortView) (x : Exchange) → after ≡ record before { shards = after.shards; seat = after.seat } → after.seat.seat.counts ≡ before.seat.seat.counts
    → says_spent x ≡ false → says_full x ≡ false → says_posted x ≡ false → (is_poll x.0 ≡ false → says_stop x ≡ false) → Moves before x after
seated before after x is counts one two three silent = still before after x (ap (λ (p : TablePortView). p.desk) is) counts one two three silent

posts_by : (before : DeskSeatView) (note : Derivation) (after : DeskSeatView) → Posts before note after → DeskMoves before (Post note, Some PostedIt) after
posts_by before note after (inl e) =
    subst (λ (d : DeskSeatView). DeskMoves before (Post note, Some PostedIt) d) (sym e)
    (record { desk = refl; draws = omega arith; claims = omega arith; met = λ m. refl; spent = λ e. absurd (false≢true e); full = λ e. absurd (false≢true e); posted = λ e. refl })
posts_by before note after (inr h) =
    subst (λ (d : DeskSeatView). DeskMoves before (Post note, Some PostedIt) d) (sym h.2)
    (record { desk = refl; draws = omega arith; claims = omega arith; met = λ m. refl; spent = λ e. absurd (false≢true e); full = λ e. absurd (false≢true e); posted = λ e. refl })

posts : (before : TablePortView) (note : Derivation) (after : TablePortView) → Posts before.desk note after.desk → after ≡ record before { desk = after.desk }
    → Moves before (Post note, Some PostedIt) after
posts before note after h is = record { desk = posts_by before.desk note after.desk h; counts = ap (λ (p : TablePortView). p.seat.seat.counts) is; silent = λ e. refl }

-- 2. THE SEAT AT THE WORDS.

abbrev Ran : TablePortView → Key → TablePortView → (RowSeatView → ShardRows → ShardRows → RowSeatView → Type 0) → Type 0
Ran before key after ran =
    RanOn before.desk.desk.position.side before.shards after.shards (shard_of before.cut key) (λ old new. ran (at_row before.seat (first_word before.cut key)) old new after.seat)

ran_at : (before : TablePortView) (key : Key) (after : TablePortView) (ran : RowSeatView → ShardRows → ShardRows → RowSeatView → Type 0) → Ran before key after ran
    → (old : ShardRows) × (new : ShardRows) × ran (at_row before.seat (first_word before.cut key)) old new after.seat
ran_at before key after ran h =
    ran_some before.desk.desk.position.side before.shards after.shards (shard_of before.cut key) (λ old new. ran (at_row before.seat (first_word before.cut key)) old new after.seat) h

by_dark : (before : TablePortView) (key : Key) (after : TablePortView) → Ran before key after (λ seat old new last. (new ≡ old) × (seat ≡ last))
    → after.seat.seat.counts ≡ before.seat.seat.counts
by_dark before key after h =
    let some = ran_at before key after (λ seat old new last. (new ≡ old) × (seat ≡ last)) h in
    sym (ap (λ (s : RowSeatView). s.seat.counts) some.2.1)

by_look : (before : TablePortView) (key : Key) (path : List Key) (seen : Seen) (after : TablePortView)
    → Ran before key after (λ seat old new last. (new ≡ old) × LooksBy Loads before.cut.to (row_of old key) key path seat seen last) → after.seat.seat.counts ≡ before.seat.seat.counts
by_look before key path seen after h =
    let some = ran_at before key after (λ seat old new last. (new ≡ old) × LooksBy Loads before.cut.to (row_of old key) key path seat seen last) h in
    (same_looked {E = Bool} before.cut.to (row_of some.0 key) key path (at_row before.seat (first_word before.cut key)) after.seat (Rattle.std.specs.Prelude.Ok seen) some.2.1).counts

added : (between last : RowSeatView) (kept : Kept) → AddsKept between kept last → last.seat.counts ≡ between.seat.counts
added between last Unkept h = ap (λ (s : RowSeatView). s.seat.counts) h
added between last (Slot slot) h = ap (λ (s : RowSeatView). s.seat.counts) h.1.1

by_enter : (before : TablePortView) (key : Key) (numbers : Numbers) (kept : Kept) (after : TablePortView)
    → Ran before key after (λ seat old new last. EntersAndAdds old seat key numbers kept new last) → after.seat.seat.counts ≡ before.seat.seat.counts
by_enter before key numbers kept after h =
    let some = ran_at before key after (λ seat old new last. EntersAndAdds old seat key numbers kept new last) h in
    added some.2.between after.seat kept some.2.adds ∙ some.2.same.counts

by_leave : (before : TablePortView) (key : Key) (slot : ℕ) (update : Update) (after : TablePortView)
    → Ran before key after (λ seat old new last. LeavesAndSubtracts old seat (Slot slot) key update new last) → after.seat.seat.counts ≡ before.seat.seat.counts
by_leave before key slot update after h =
    let some = ran_at before key after (λ seat old new last. LeavesAndSubtracts old seat (Slot slot) key update new last) h in
    ap (λ (s : RowSeatView). s.seat.counts) some.2.subtracts.1

-- 3. EACH REQUEST.

pub moves : (before : TablePortView) (own : Signal) (path : List Key) (q : Request) (a : Option Reply) (after : TablePortView) (later : Signal)
    → TableTurns before own path q a after later → Moves before (q, a) after
moves before own path Poll None after later h = absurd h
moves before own path Poll (Some (Polled stop)) after later h = still before after (Poll, (Some (Polled stop))) (ap (λ (p : TablePortView). p.desk) h.0) (ap (λ (p : TablePortView). p.seat.seat.counts) h.0) refl refl refl (λ e. absurd (false≢true (sym e)))
moves before own path Poll (Some (Drew (Go number))) after later h = absurd h
moves before own path Poll (Some (Drew Done)) after later h = absurd h
moves before own path Poll (Some (Drew AllDrawn)) after later h = absurd h
moves before own path Poll (Some (Claimed (Room room))) after later h = absurd h
moves before own path Poll (Some (Claimed Full)) after later h = absurd h
moves before own path Poll (Some (Looked seen)) after later h = absurd h
moves before own path Poll (Some (Entered kept)) after later h = absurd h
moves before own path Poll (Some LeftIt) after later h = absurd h
moves before own path Poll (Some PostedIt) after later h = absurd h
moves before own path Draws None after later h = absurd h
moves before own path Draws (Some (Polled stop)) after later h = absurd h
moves before own path Draws (Some (Drew (Go number))) after later h = drawn before after (Draws, (Some (Drew (Go number)))) h.1 (record before.desk { visits = number ∷ before.desk.visits }) h.0.2 (unmoved before.desk (Draws, (Some (Drew (Go number)))) refl refl refl) (λ e. refl)
moves before own path Draws (Some (Drew Done)) after later h = drawn before after (Draws, (Some (Drew Done))) h.1 (record before.desk { draw_ends = before.desk.draw_ends + 1; met = true }) h.0 (record { desk = refl; draws = omega arith; claims = omega arith; met = λ m. refl; spent = λ e. omega arith; full = λ e. absurd (false≢true e); posted = λ e. refl }) (λ e. refl)
moves before own path Draws (Some (Drew AllDrawn)) after later h = drawn before after (Draws, (Some (Drew AllDrawn))) h.1 (record before.desk { draw_ends = before.desk.draw_ends + 1 }) h.0.1 (record { desk = refl; draws = omega arith; claims = omega arith; met = λ m. m; spent = λ e. omega arith; full = λ e. absurd (false≢true e); posted = λ e. absurd (false≢true e) }) (λ e. refl)
moves before own path Draws (Some (Claimed (Room room))) after later h = absurd h
moves before own path Draws (Some (Claimed Full)) after later h = absurd h
moves before own path Draws (Some (Looked seen)) after later h = absurd h
moves before own path Draws (Some (Entered kept)) after later h = absurd h
moves before own path Draws (Some LeftIt) after later h = absurd h
moves before own path Draws (Some PostedIt) after later h = absurd h
moves before own path Claims None after later h = absurd h
moves before own path Claims (Some (Polled stop)) after later h = absurd h
moves before own path Claims (Some (Drew (Go number))) after later h = absurd h
moves before own path Claims (Some (Drew Done)) after later h = absurd h
moves before own path Claims (Some (Drew AllDrawn)) after later h = absurd h
moves before own path Claims (Some (Claimed (Room room))) after later h = drawn before after (Claims, (Some (Claimed (Room room)))) h.1 (record before.desk { claims = room ∷ before.desk.claims }) h.0.1 (unmoved before.desk (Claims, (Some (Claimed (Room room)))) refl refl refl) (λ e. refl)
moves before own path Claims (Some (Claimed Full)) after later h = drawn before after (Claims, (Some (Claimed Full))) h.1 (record before.desk { claim_ends = before.desk.claim_ends + 1 }) h.0 (record { desk = refl; draws = omega arith; claims = omega arith; met = λ m. m; spent = λ e. absurd (false≢true e); full = λ e. omega arith; posted = λ e. absurd (false≢true e) }) (λ e. refl)
moves before own path Claims (Some (Looked seen)) after later h = absurd h
moves before own path Claims (Some (Entered kept)) after later h = absurd h
moves before own path Claims (Some LeftIt) after later h = absurd h
moves before own path Claims (Some PostedIt) after later h = absurd h
moves before own path (Look key) None after later h = seated before after ((Look key), None) h.0.1 (by_dark before key after h.0.0) refl refl refl (λ e. refl)
moves before own path (Look key) (Some (Polled stop)) after later h = absurd h
moves before own path (Look key) (Some (Drew (Go number))) after later h = absurd h
moves before own path (Look key) (Some (Drew Done)) after later h = absurd h
moves before own path (Look key) (Some (Drew AllDrawn)) after later h = absurd h
moves before own path (Look key) (Some (Claimed (Room room))) after later h = absurd h
moves before own path (Look key) (Some (Claimed Full)) after later h = absurd h
moves before own path (Look key) (Some (Looked seen)) after later h = seated before after ((Look key), (Some (Looked seen))) h.0.1 (by_look before key path seen after h.0.0) refl refl refl (λ e. refl)
moves before own path (Look key) (Some (Entered kept)) after later h = absurd h
moves before own path (Look key) (Some LeftIt) after later h = absurd h
moves before own path (Look key) (Some PostedIt) after later h = absurd h
moves before own path (Enter key numbers) None after later h = absurd h
moves before own path (Enter key numbers) (Some (Polled stop)) after later h = absurd h
moves before own path (Enter key numbers) (Some (Drew (Go number))) after later h = absurd h
moves before own path (Enter key numbers) (Some (Drew Done)) after later h = absurd h
moves before own path (Enter key numbers) (Some (Drew AllDrawn)) after later h = absurd h
moves before own path (Enter key numbers) (Some (Claimed (Room room))) after later h = absurd h
moves before own path (Enter key numbers) (Some (Claimed Full)) after later h = absurd h
moves before own path (Enter key numbers) (Some (Looked seen)) after later h = absurd h
moves before own path (Enter key numbers) (Some (Entered kept)) after later h = seated before after ((Enter key numbers), (Some (Entered kept))) h.0.1 (by_enter before key numbers kept after h.0.0) refl refl refl (λ e. refl)
moves before own path (Enter key numbers) (Some LeftIt) after later h = absurd h
moves before own path (Enter key numbers) (Some PostedIt) after later h = absurd h
moves before own path (Leave (Slot slot) key update) None after later h = absurd h
moves before own path (Leave (Slot slot) key update) (Some (Polled stop)) after later h = absurd h
moves before own path (Leave (Slot slot) key update) (Some (Drew (Go number))) after later h = absurd h
moves before own path (Leave (Slot slot) key update) (Some (Drew Done)) after later h = absurd h
moves before own path (Leave (Slot slot) key update) (Some (Drew AllDrawn)) after later h = absurd h
moves before own path (Leave (Slot slot) key update) (Some (Claimed (Room room))) after later h = absurd h
moves before own path (Leave (Slot slot) key update) (Some (Claimed Full)) after later h = absurd h
moves before own path (Leave (Slot slot) key update) (Some (Looked seen)) after later h = absurd h
moves before own path (Leave (Slot slot) key update) (Some (Entered kept)) after later h = absurd h
moves before own path (Leave (Slot slot) key update) (Some LeftIt) after later h = seated before after ((Leave (Slot slot) key update), (Some LeftIt)) h.0.1 (by_leave before key slot update after h.0.0) refl refl refl (λ e. refl)
moves before own path (Leave (Slot slot) key update) (Some PostedIt) after later h = absurd h
moves before own path (Leave Unkept key update) None after later h = absurd h
moves before own path (Leave Unkept key update) (Some (Polled stop)) after later h = absurd h
moves before own path (Leave Unkept key update) (Some (Drew (Go number))) after later h = absurd h
moves before own path (Leave Unkept key update) (Some (Drew Done)) after later h = absurd h
moves before own path (Leave Unkept key update) (Some (Drew AllDrawn)) after later h = absurd h
moves before own path (Leave Unkept key update) (Some (Claimed (Room room))) after later h = absurd h
moves before own path (Leave Unkept key update) (Some (Claimed Full)) after later h = absurd h
moves before own path (Leave Unkept key update) (Some (Looked seen)) after later h = absurd h
moves before own path (Leave Unkept key update) (Some (Entered kept)) after later h = absurd h
moves before own path (Leave Unkept key update) (Some LeftIt) after later h = still before after ((Leave Unkept key update), (Some LeftIt)) (ap (λ (p : TablePortView). p.desk) h.0) (ap (λ (p : TablePortView). p.seat.seat.counts) h.0) refl refl refl (λ e. refl)
moves before own path (Leave Unkept key update) (Some PostedIt) after later h = absurd h
moves before own path (Post note) None after later h = absurd h
moves before own path (Post note) (Some (Polled stop)) after later h = absurd h
moves before own path (Post note) (Some (Drew (Go number))) after later h = absurd h
moves before own path (Post note) (Some (Drew Done)) after later h = absurd h
moves before own path (Post note) (Some (Drew AllDrawn)) after later h = absurd h
moves before own path (Post note) (Some (Claimed (Room room))) after later h = absurd h
moves before own path (Post note) (Some (Claimed Full)) after later h = absurd h
moves before own path (Post note) (Some (Looked seen)) after later h = absurd h
moves before own path (Post note) (Some (Entered kept)) after later h = absurd h
moves before own path (Post note) (Some LeftIt) after later h = absurd h
moves before own path (Post note) (Some PostedIt) after later h = posts before note after h.0 h.1
moves before own path (End end) None after later h = absurd h
moves before own path (End end) (Some (Polled stop)) after later h = absurd h
moves before own path (End end) (Some (Drew (Go number))) after later h = absurd h
moves before own path (End end) (Some (Drew Done)) after later h = absurd h
moves before own path (End end) (Some (Drew AllDrawn)) after later h = absurd h
moves before own path (End end) (Some (Claimed (Room room))) after later h = absurd h
moves before own path (End end) (Some (Claimed Full)) after later h = absurd h
moves before own path (End end) (Some (Looked seen)) after later h = absurd h
moves before own path (End end) (Some (Entered kept)) after later h = absurd h
moves before own path (End end) (Some LeftIt) after later h = absurd h
moves before own path (End end) (Some PostedIt) after later h = absurd h

-- 4. THE STOP.

said : (stop : Bool) → says_stop (Poll, Some (Polled stop)) ≡ stop
said true = refl
said false = refl

-- A poll is the stop's, and asks it; nothing else does.
pub stops : (before : TablePortView) (signal : Signal) (path : List Key) (q : Request) (a : Option Reply) (after : TablePortView) (later : Signal)
    → TableTurns before signal path q a after later
    → ((stop : Bool) × (q ≡ Poll) × (says_stop (q, a) ≡ stop) × (later ≡ polled signal stop)) ⊎ ((is_poll q ≡ false) × (later ≡ signal))
stops before signal path Poll None after later h = absurd h
stops before signal path Poll (Some (Polled stop)) after later h = inl (stop, refl, said stop, h.1)
stops before signal path Poll (Some (Drew draw)) after later h = absurd h
stops before signal path Poll (Some (Claimed claim)) after later h = absurd h
stops before signal path Poll (Some (Looked seen)) after later h = absurd h
stops before signal path Poll (Some (Entered kept)) after later h = absurd h
stops before signal path Poll (Some LeftIt) after later h = absurd h
stops before signal path Poll (Some PostedIt) after later h = absurd h
stops before signal path Draws None after later h = absurd h
stops before signal path Draws (Some (Polled stop)) after later h = absurd h
stops before signal path Draws (Some (Drew draw)) after later h = inr (refl, h.2)
stops before signal path Draws (Some (Claimed claim)) after later h = absurd h
stops before signal path Draws (Some (Looked seen)) after later h = absurd h
stops before signal path Draws (Some (Entered kept)) after later h = absurd h
stops before signal path Draws (Some LeftIt) after later h = absurd h
stops before signal path Draws (Some PostedIt) after later h = absurd h
stops before signal path Claims None after later h = absurd h
stops before signal path Claims (Some (Polled stop)) after later h = absurd h
stops before signal path Claims (Some (Drew draw)) after later h = absurd h
stops before signal path Claims (Some (Claimed claim)) after later h = inr (refl, h.2)
stops before signal path Claims (Some (Looked seen)) after later h = absurd h
stops before signal path Claims (Some (Entered kept)) after later h = absurd h
stops before signal path Claims (Some LeftIt) after later h = absurd h
stops before signal path Claims (Some PostedIt) after later h = absurd h
stops before signal path (Look key) None after later h = inr (refl, h.1)
stops before signal path (Look key) (Some (Polled stop)) after later h = absurd h
stops before signal path (Look key) (Some (Drew draw)) after later h = absurd h
stops before signal path (Look key) (Some (Claimed claim)) after later h = absurd h
stops before signal path (Look key) (Some (Looked seen)) after later h = inr (refl, h.1)
stops before signal path (Look key) (Some (Entered kept)) after later h = absurd h
stops before signal path (Look key) (Some LeftIt) after later h = absurd h
stops before signal path (Look key) (Some PostedIt) after later h = absurd h
stops before signal path (Enter key numbers) None after later h = absurd h
stops before signal path (Enter key numbers) (Some (Polled stop)) after later h = absurd h
stops before signal path (Enter key numbers) (Some (Drew draw)) after later h = absurd h
stops before signal path (Enter key numbers) (Some (Claimed claim)) after later h = absurd h
stops before signal path (Enter key numbers) (Some (Looked seen)) after later h = absurd h
stops before signal path (Enter key numbers) (Some (Entered kept)) after later h = inr (refl, h.1)
stops before signal path (Enter key numbers) (Some LeftIt) after later h = absurd h
stops before signal path (Enter key numbers) (Some PostedIt) after later h = absurd h
stops before signal path (Leave (Slot slot) key update) None after later h = absurd h
stops before signal path (Leave (Slot slot) key update) (Some (Polled stop)) after later h = absurd h
stops before signal path (Leave (Slot slot) key update) (Some (Drew draw)) after later h = absurd h
stops before signal path (Leave (Slot slot) key update) (Some (Claimed claim)) after later h = absurd h
stops before signal path (Leave (Slot slot) key update) (Some (Looked seen)) after later h = absurd h
stops before signal path (Leave (Slot slot) key update) (Some (Entered kept)) after later h = absurd h
stops before signal path (Leave (Slot slot) key update) (Some LeftIt) after later h = inr (refl, h.1)
stops before signal path (Leave (Slot slot) key update) (Some PostedIt) after later h = absurd h
stops before signal path (Leave Unkept key update) None after later h = absurd h
stops before signal path (Leave Unkept key update) (Some (Polled stop)) after later h = absurd h
stops before signal path (Leave Unkept key update) (Some (Drew draw)) after later h = absurd h
stops before signal path (Leave Unkept key update) (Some (Claimed claim)) after later h = absurd h
stops before signal path (Leave Unkept key update) (Some (Looked seen)) after later h = absurd h
stops before signal path (Leave Unkept key update) (Some (Entered kept)) after later h = absurd h
stops before signal path (Leave Unkept key update) (Some LeftIt) after later h = inr (refl, h.1)
stops before signal path (Leave Unkept key update) (Some PostedIt) after later h = absurd h
stops before signal path (Post note) None after later h = absurd h
stops before signal path (Post note) (Some (Polled stop)) after later h = absurd h
stops before signal path (Post note) (Some (Drew draw)) after later h = absurd h
stops before signal path (Post note) (Some (Claimed claim)) after later h = absurd h
stops before signal path (Post note) (Some (Looked seen)) after later h = absurd h
stops before signal path (Post note) (Some (Entered kept)) after later h = absurd h
stops before signal path (Post note) (Some LeftIt) after later h = absurd h
stops before signal path (Post note) (Some PostedIt) after later h = inr (refl, h.2)
stops before signal path (End end) None after later h = absurd h
stops before signal path (End end) (Some (Polled stop)) after later h = absurd h
stops before signal path (End end) (Some (Drew draw)) after later h = absurd h
stops before signal path (End end) (Some (Claimed claim)) after later h = absurd h
stops before signal path (End end) (Some (Looked seen)) after later h = absurd h
stops before signal path (End end) (Some (Entered kept)) after later h = absurd h
stops before signal path (End end) (Some LeftIt) after later h = absurd h
stops before signal path (End end) (Some PostedIt) after later h = absurd h
