-- Each request keeps what is kept, and changes what is counted by what it enters, leaves and gives.
use Rattle.std.proofs.Common.{sum, ◌≡◌, ◌≤◌, ◌+◌, ℕ, Bool, List, [], length, sum_by, refl, sym, subst, ap, ◌∙◌, arith, inl, inr}
use Rattle.std.specs.Prelude.{Option, Some, None, All}
use Rattle.std.proofs.lemmas.List.{length-set, length_push, set-get_or}
use Rattle.std.proofs.lemmas.List.Elements.{All-get_or, All-set}
use Rattle.board_core.specs.Board.{Board}
use Rattle.board_core.specs.declared.keys.Key.{Key}
use Rattle.pn_numbers.specs.declared.numbers.Numbers.{Numbers}
use Rattle.notes.specs.declared.words.Kept.TheVariants.{Slot, Unkept}
use Rattle.notes.specs.declared.words.Draw.TheVariants.{Go, Done, Spent as AllDrawn}
use Rattle.notes.specs.declared.words.RoomAnswer.TheVariants.{Room, NoRoom as Full}
use Rattle.notes.specs.declared.words.Update.{Update}
use Rattle.unit_desk.specs.Desk.{DeskView}
use Rattle.table_shard.specs.Entry.{EntryView, AreFor}
use Rattle.table_shard.specs.Row.{Enters, fresh}
use Rattle.table_shard.specs.Shard.{row_of, with_row}
use Rattle.table_shard.specs.Spot.{place_of, word_of}
use Rattle.table_shard.proofs.Offered.{place_within}
use Rattle.visit_log.specs.declared.words.Request.{Request}
use Rattle.visit_log.specs.declared.words.Request.TheVariants.{Poll, Draw as Draws, Claim as Claims, Look, Enter, Leave, Post}
use Rattle.visit_log.specs.declared.words.Reply.{Reply}
use Rattle.visit_log.specs.declared.words.Reply.TheVariants.{Poll as Polled, Draw as Drew, Claim as Claimed, Look as Looked, Enter as Entered, Leave as LeftIt, Post as PostedIt}
use Rattle.visit_log.specs.Visit.{Exchange}
use Rattle.visit_log.specs.Counts.{Words, enters, leaves, enters_some, leaves_some}
use Rattle.worker_core.specs.Port.{visits_by, rooms_by}
use Rattle.lone_port.specs.Lone.{LonePortView, Turns, held_by, pins_of, pinned, unpinned}
use Rattle.lone_port.specs.Keeps.{IsKeptPort, MayAsk, IsCountedBy, TurnsAreCounted}
use Rattle.lone_port.proofs.Asked.{after_enter, enter_keeps_at, enter_books_at, after_leave, left_row, leave_keeps_at, leave_books_at}
use Rattle.lone_port.proofs.Words.{own}

-- 1. ROWS.

-- No row of a table has more than eight entries.
abbrev AreFew : List (List EntryView) → Type 0
AreFew rows = All (λ (row : List EntryView). length row ≤ 8) rows

few_at : (port : LonePortView) (key : Key) → IsKeptPort port → length (row_of port.rows key) ≤ 8
few_at port key is =
    All-get_or (λ (row : List EntryView). length row ≤ 8) port.rows (place_of key (length port.rows)) [] (place_within key (length port.rows) is.lone.some) is.few

few_with : (port : LonePortView) (key : Key) (row : List EntryView) → IsKeptPort port → length row ≤ 8 → AreFew (with_row port.rows key row)
few_with port key row is few = All-set (λ (r : List EntryView). length r ≤ 8) port.rows (place_of key (length port.rows)) row few is.few

-- Nor has one that is entered.
enters_few : (row : List EntryView) (pins : List ℕ) (key : Key) (numbers : Numbers) (slot : ℕ) (after : List EntryView) → length row ≤ 8
    → Enters row pins key numbers (Slot slot) after → length after ≤ 8
enters_few row pins key numbers slot after few (inl same) = let e = ap length same.1 in omega (arith, few, e)
enters_few row pins key numbers slot after few (inr (lacks, inl free)) =
    let e = ap length free.2 in
    let n = length_push row (fresh key numbers) in
    omega (arith, free.0, e, n)
enters_few row pins key numbers slot after few (inr (lacks, inr full)) =
    let e = ap length full.2 in
    let n = length-set row slot (fresh key numbers) in
    omega (arith, few, e, n)

-- 2. REQUESTS.

-- One that changes nothing, and counts nothing.
same_counted : (event : Exchange) (before after : LonePortView) → IsKeptPort before → after ≡ before → ((words : Words) (word : ℕ) → leaves words event word ≡ enters words event word)
    → leaves_some event ≡ enters_some event → visits_by event ≡ 0 → rooms_by event ≡ 0 → IsCountedBy event before after
same_counted event before after is e slots some visits rooms = subst (λ (p : LonePortView). IsCountedBy event before p) (sym e) (record {
  kept = is;
  as_many = refl;
  held = λ word. ap (λ (n : ℕ). held_by before.pins word + n) (slots (word_of (length before.pins)) word);
  size = ap (λ (n : ℕ). sum_by sum before.pins + n) some;
  visits = omega (arith, visits);
  rooms = omega (arith, rooms);
})

-- One that changes the desk alone.
desk_counted : (event : Exchange) (before after : LonePortView) (desk : DeskView) (going : Bool) → IsKeptPort before → after ≡ record before { desk = desk; going = going }
    → desk.position ≡ before.desk.position → ((words : Words) (word : ℕ) → leaves words event word ≡ enters words event word) → leaves_some event ≡ enters_some event
    → desk.drawn ≡ before.desk.drawn + visits_by event → desk.claimed ≡ before.desk.claimed + rooms_by event → IsCountedBy event before after
desk_counted event before after desk going is e same slots some visits rooms = subst (λ (p : LonePortView). IsCountedBy event before p) (sym e) (record {
  kept = record {
    lone = record {
      some = is.lone.some;
      as_many = is.lone.as_many;
      eight = is.lone.eight;
      there = is.lone.there;
      notes = subst (λ (b : Board). All (All (AreFor b.side)) before.rows) (sym same) is.lone.notes;
    };
    few = is.few;
  };
  as_many = refl;
  held = λ word. ap (λ (n : ℕ). held_by before.pins word + n) (slots (word_of (length before.pins)) word);
  size = ap (λ (n : ℕ). sum_by sum before.pins + n) some;
  visits = visits;
  rooms = rooms;
})

-- Entering a key in a slot.
enter_counted : (before after : LonePortView) (key : Key) (numbers : Numbers) (slot : ℕ) (row : List EntryView) → IsKeptPort before
    → Enters (row_of before.rows key) (pins_of before.pins key) key numbers (Slot slot) row → after ≡ after_enter before key slot row
    → IsCountedBy (Enter key numbers, Some (Entered (Slot slot))) before after
enter_counted before after key numbers slot row is enters e =
    let few = few_at before key is in
    let booked = enter_books_at before key numbers slot row is.lone few enters in
    subst (λ (p : LonePortView). IsCountedBy (Enter key numbers, Some (Entered (Slot slot))) before p) (sym e) (record {
      kept = record {
        lone = enter_keeps_at before key numbers slot row is.lone few enters;
        few = few_with before key row is (enters_few (row_of before.rows key) (pins_of before.pins key) key numbers slot row few enters);
      };
      as_many = length-set before.pins (place_of key (length before.pins)) _;
      held = booked.held;
      size = booked.size;
      visits = booked.visits;
      rooms = booked.rooms;
    })

-- Leaving a slot of a key.
leave_counted : (before after : LonePortView) (key : Key) (slot : ℕ) (update : Update) → IsKeptPort before → MayAsk before (Leave (Slot slot) key update, Some LeftIt)
    → Turns before [] (Leave (Slot slot) key update) (Some LeftIt) after → IsCountedBy (Leave (Slot slot) key update, Some LeftIt) before after
leave_counted before after key slot update is may h =
    let few = few_at before key is in
    let mine = own before.pins key slot may.held in
    let left_so = left_row before key slot update after.rows h.0 in
    let booked = leave_books_at before key slot update left_so.row is.lone mine in
    let long = left_so.long in
    let e : after ≡ after_leave before key slot left_so.row =
    h.1 ∙ ap (λ (rs : List (List EntryView)). record before { rows = rs; pins = unpinned before.pins key (Slot slot) }) left_so.is in
    subst (λ (p : LonePortView). IsCountedBy (Leave (Slot slot) key update, Some LeftIt) before p) (sym e) (record {
      kept = record {
        lone = leave_keeps_at before key slot update after.rows left_so is.lone mine may.sound;
        few = few_with before key left_so.row is (omega (arith, few, long));
      };
      as_many = length-set before.pins (place_of key (length before.pins)) _;
      held = booked.held;
      size = booked.size;
      visits = booked.visits;
      rooms = booked.rooms;
    })

-- Each request that may be asked, with its answer.
counted : (before : LonePortView) (path : List Key) (q : Request) (a : Option Reply) (after : LonePortView) → IsKeptPort before → MayAsk before (q, a)
    → Turns before path q a after → IsCountedBy (q, a) before after
counted before path Poll (Some (Polled stop)) after is may h = same_counted (Poll, Some (Polled stop)) before after is h.1 (λ words word. refl) refl refl refl
counted before path Draws (Some (Drew (Go number))) after is may h =
    let e = ap (λ (d : DeskView). d.drawn) h.0.3 in
    let n = h.0.2 in
    let c = ap (λ (d : DeskView). d.claimed) h.0.3 in
    desk_counted (Draws, Some (Drew (Go number))) before after after.desk _ is h.1 (ap (λ (d : DeskView). d.position) h.0.3) (λ words word. refl) refl
    (omega (arith, e, n)) (omega (arith, c))
counted before path Draws (Some (Drew Done)) after is may h =
    let e = ap (λ (d : DeskView). d.drawn) h.0.1 in
    let c = ap (λ (d : DeskView). d.claimed) h.0.1 in
    desk_counted (Draws, Some (Drew Done)) before after after.desk _ is h.1 (ap (λ (d : DeskView). d.position) h.0.1) (λ words word. refl) refl
    (omega (arith, e)) (omega (arith, c))
counted before path Draws (Some (Drew AllDrawn)) after is may h =
    let e = ap (λ (d : DeskView). d.drawn) h.0.2 in
    let c = ap (λ (d : DeskView). d.claimed) h.0.2 in
    desk_counted (Draws, Some (Drew AllDrawn)) before after after.desk _ is h.1 (ap (λ (d : DeskView). d.position) h.0.2) (λ words word. refl) refl
    (omega (arith, e)) (omega (arith, c))
counted before path Claims (Some (Claimed (Room room))) after is may h =
    let e = ap (λ (d : DeskView). d.drawn) h.0.2 in
    let n = h.0.1 in
    let c = ap (λ (d : DeskView). d.claimed) h.0.2 in
    desk_counted (Claims, Some (Claimed (Room room))) before after after.desk _ is h.1 (ap (λ (d : DeskView). d.position) h.0.2) (λ words word. refl) refl
    (omega (arith, e)) (omega (arith, c, n))
counted before path Claims (Some (Claimed Full)) after is may h =
    let e = ap (λ (d : DeskView). d.drawn) h.0.1 in
    let c = ap (λ (d : DeskView). d.claimed) h.0.1 in
    desk_counted (Claims, Some (Claimed Full)) before after after.desk _ is h.1 (ap (λ (d : DeskView). d.position) h.0.1) (λ words word. refl) refl
    (omega (arith, e)) (omega (arith, c))
counted before path (Look key) None after is may h = same_counted (Look key, None) before after is h (λ words word. refl) refl refl refl
counted before path (Look key) (Some (Looked seen)) after is may h = same_counted (Look key, Some (Looked seen)) before after is h.1 (λ words word. refl) refl refl refl
counted before path (Enter key numbers) (Some (Entered Unkept)) after is may h =
    let same : after.rows ≡ before.rows =
    h.0.others ∙ (ap (λ (r : List EntryView). with_row before.rows key r) h.0.enters.3 ∙ set-get_or before.rows (place_of key (length before.rows)) []) in
    same_counted (Enter key numbers, Some (Entered Unkept)) before after is (h.1 ∙ ap (λ (rs : List (List EntryView)). record before { rows = rs }) same)
    (λ words word. refl) refl refl refl
counted before path (Enter key numbers) (Some (Entered (Slot slot))) after is may h =
    enter_counted before after key numbers slot h.0.row is h.0.enters
    (h.1 ∙ ap (λ (rs : List (List EntryView)). record before { rows = rs; pins = pinned before.pins key (Slot slot) }) h.0.others)
counted before path (Leave Unkept key update) (Some LeftIt) after is may h =
    same_counted (Leave Unkept key update, Some LeftIt) before after is (h.1 ∙ ap (λ (rs : List (List EntryView)). record before { rows = rs }) h.0) (λ words word. refl) refl refl refl
counted before path (Leave (Slot slot) key update) (Some LeftIt) after is may h = leave_counted before after key slot update is may h
counted before path (Post note) (Some PostedIt) after is may h =
    desk_counted (Post note, Some PostedIt) before after _ before.going is h refl (λ words word. refl) refl (omega arith) (omega arith)
counted before path q a after is may h = absurd h

-- So it is of all requests that may be asked.
pub turns_counted : TurnsAreCounted
turns_counted before path event after is may turns = counted before path event.0 event.1 after is may turns
