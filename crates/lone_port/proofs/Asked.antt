-- What the table does at each request, as a whole.
use Rattle.std.proofs.Common.{sum, ◌≡◌, ◌<◌, ◌≤◌, ◌+◌, ◌-◌, ℕ, List, [], length, get_or, set, refl, sym, subst, ap, ap₂, ◌∙◌, arith, replicate, inl, inr}
use Rattle.std.specs.Prelude.{Bool, true, false, Option, Some, IfSome, Result, Ok, Err, IfOk, MatchResult, All}
use Rattle.std.proofs.lemmas.List.{length-set, set-get_or, get_or_default}
use Rattle.std.proofs.lemmas.List.Elements.{All-get_or, All-set}
use Rattle.bit_boards.specs.declared.piece.Side.{Side}
use Rattle.board_core.specs.declared.keys.Key.{Key}
use Rattle.pn_numbers.specs.declared.numbers.Numbers.{Numbers}
use Rattle.notes.specs.declared.words.Kept.TheVariants.{Slot, Unkept}
use Rattle.notes.specs.declared.words.Seen.{Seen}
use Rattle.notes.specs.declared.words.Update.{Update}
use Rattle.table_shard.specs.Entry.{EntryView, AreFor}
use Rattle.table_shard.specs.Row.{IsRow, lent_to, Looks, LooksBy, Enters, left}
use Rattle.table_shard.specs.Shard.{row_of, with_row, EntersIn}
use Rattle.table_shard.specs.Pins.{TellsCount}
use Rattle.table_shard.specs.declared.pins.RowPins.{RowPins}
use Rattle.table_shard.specs.Spot.{place_of, spot_of, word_of}
use Rattle.table_shard.specs.declared.hash.Spot.{Spot}
use Rattle.table_shard.proofs.Offered.{holds_within, length-left, place_within, TellsStanding, looks_standing}
use Rattle.visit_log.specs.declared.words.Request.TheVariants.{Look, Enter, Leave}
use Rattle.visit_log.specs.declared.words.Reply.TheVariants.{Enter as Entered, Leave as LeftIt}
use Rattle.visit_log.specs.Round.{MayShow}
use Rattle.visit_log.specs.Sound.{IsSoundUpdate}
use Rattle.worker_core.specs.Port.{IsBooked, Suits, shown}
use Rattle.board_core.specs.Board.{Board}
use Rattle.std.proofs.lemmas.List.Folds.{sum_by-replicate}
use Rattle.lone_port.specs.Lone.{LonePortView, IsLone, IsLeftIn, Turns, book_of, pins_of, with_pins, pinned, to_whom, unpinned, alone_at_first, worker_at_first}
use Rattle.lone_port.proofs.Words.{held_entered, held_left, IsOwn}
use Rattle.lone_port.proofs.Rows.{IsEntered, entered, left_for, looks_may}
use Rattle.lone_port.proofs.Places.{size_moves, there_moves, there_at}

-- 1. WHERE THE COUNTS ARE.

-- A key's spot has its place.
pub spot_place : (spot : Spot) (key : Key) (rows : ℕ) → spot ≡ spot_of key rows → spot.place ≡ place_of key rows
spot_place spot key rows is = ap (λ (s : Spot). s.place) is

-- The counts that are read at the place of a key are those of its row.
pub found : (pins : List (List ℕ)) (key : Key) (p n : ℕ) (counts : List ℕ) → n ≡ length pins → p ≡ place_of key n → p < n → counts ≡ get_or pins p counts
    → counts ≡ pins_of pins key
found pins key p n counts long at within is =
    is ∙ (get_or_default pins p counts [] (subst (λ (m : ℕ). p < m) long within) ∙ ap (λ (q : ℕ). get_or pins q []) (at ∙ ap (place_of key) long))

-- The counts of a row that nobody else changes.
abbrev pub counts_in : RowPins → List ℕ
counts_in pins = pins.counts.now

-- They are told as they stand.
abbrev pub tells : RowPins → ℕ → ℕ → RowPins → Type 0
tells before slot count after = TellsCount (counts_in before) slot count × (before ≡ after)

pub tells_standing : TellsStanding counts_in tells
tells_standing before after slot count told = told

-- 2. LOOKING.

-- A look, or that there is no memory for it, is a step.
pub look_turns : {E : Type 0} (port : LonePortView) (key : Key) (path : List Key) (r : Result Seen E) → IfOk r (Looks (to_whom port) (row_of port.rows key) (pins_of port.pins key) key path)
    → Turns port path (Look key) (shown r) port
look_turns port key path (Ok seen) h = (h, refl)
look_turns port key path (Err e) h = refl

-- It lends to this attacker alone.
his : (lends : Bool) (attacker : Side) → IfSome (lent_to lends attacker) (λ side. side ≡ attacker)
his true attacker = refl
his false attacker = tt

-- What a look shows may be shown.
pub look_may : {E : Type 0} (port : LonePortView) (key : Key) (path : List Key) (r : Result Seen E) → IsLone port → All IsRow port.rows
    → IfOk r (Looks (to_whom port) (row_of port.rows key) (pins_of port.pins key) key path) → IfOk r (MayShow port.desk.position.side key path)
look_may port key path (Ok seen) is rows h =
    looks_may port.desk.position.side (to_whom port) (row_of port.rows key) (pins_of port.pins key) key path seen (his port.lends port.desk.position.side)
    (All-get_or IsRow port.rows (place_of key (length port.rows)) [] (place_within key (length port.rows) is.some) rows)
    (All-get_or (All (AreFor port.desk.position.side)) port.rows (place_of key (length port.rows)) [] (place_within key (length port.rows) is.some) is.notes)
    h
look_may port key path (Err e) is rows h = tt

-- A look by counts that stand is one by them, unless there is no memory for it.
pub looks_in : {P E : Type 0} (counts_of : P → List ℕ) (told : P → ℕ → ℕ → P → Type 0) → TellsStanding counts_of told → (to : Option Side) (row : List EntryView) (key : Key)
    (path : List Key) (before after : P) (r : Result Seen E) → IsRow row → MatchResult r (λ seen. LooksBy told to row key path before seen after) (λ error. before ≡ after)
    → IfOk r (Looks to row (counts_of before) key path)
looks_in counts_of told how to row key path before after (Ok seen) is by = looks_standing counts_of told how to row key path before after seen is by
looks_in counts_of told how to row key path before after (Err error) is by = tt

-- The row of a key is kept as rows are.
pub row_kept : (port : LonePortView) (key : Key) → IsLone port → All IsRow port.rows → IsRow (row_of port.rows key)
row_kept port key is rows = All-get_or IsRow port.rows (place_of key (length port.rows)) [] (place_within key (length port.rows) is.some) rows

-- 3. WHAT IS KNOWN OF A KEY'S ROW.

-- What is known of a key's row, and of its counts.
record IsRowOf (port : LonePortView) (key : Key) : Type 0 where
  pub at : place_of key (length port.pins) ≡ place_of key (length port.rows)
  pub row_within : place_of key (length port.rows) < length port.rows
  pub pins_within : place_of key (length port.pins) < length port.pins
  pub eight : length (pins_of port.pins key) ≡ 8
  pub there : (s : ℕ) → 0 < get_or (pins_of port.pins key) s 0 → s < length (row_of port.rows key)
  pub notes : All (AreFor port.desk.position.side) (row_of port.rows key)

row_known : (port : LonePortView) (key : Key) → IsLone port → IsRowOf port key
row_known port key is =
    let here = ap (place_of key) is.as_many in
    let low = place_within key (length port.rows) is.some in
    let low_too = place_within key (length port.pins) (subst (λ (n : ℕ). 0 < n) (sym is.as_many) is.some) in
    record {
      at = here;
      row_within = low;
      pins_within = low_too;
      eight = All-get_or (λ (c : List ℕ). length c ≡ 8) port.pins (place_of key (length port.pins)) [] low_too is.eight;
      there = λ s some. subst (λ (n : ℕ). s < length (get_or port.rows n [])) here (is.there (place_of key (length port.pins)) s some);
      notes = All-get_or (All (AreFor port.desk.position.side)) port.rows (place_of key (length port.rows)) [] low is.notes;
    }

-- What is kept stays kept when a key's row and its counts change.
changed_keeps : (port : LonePortView) (key : Key) (row : List EntryView) (counts : List ℕ) → IsLone port → length counts ≡ 8 → ((s : ℕ) → 0 < get_or counts s 0 → s < length row)
    → All (AreFor port.desk.position.side) row → IsLone (record port { rows = with_row port.rows key row; pins = with_pins port.pins key counts })
changed_keeps port key row counts is eight there notes =
    let known = row_known port key is in
    record {
      some = subst (λ (n : ℕ). 0 < n) (sym (length-set port.rows (place_of key (length port.rows)) row)) is.some;
      as_many = length-set port.pins (place_of key (length port.pins)) counts ∙ (is.as_many ∙ sym (length-set port.rows (place_of key (length port.rows)) row));
      eight = All-set (λ (c : List ℕ). length c ≡ 8) port.pins (place_of key (length port.pins)) counts eight is.eight;
      there = subst (λ (q : ℕ). (place slot : ℕ) → 0 < get_or (get_or (set port.pins q counts) place []) slot 0
          → slot < length (get_or (with_row port.rows key row) place [])) (sym known.at)
          (there_moves port.rows port.pins (place_of key (length port.rows)) row counts known.row_within is.as_many there is.there);
      notes = All-set (All (AreFor port.desk.position.side)) port.rows (place_of key (length port.rows)) row notes is.notes;
    }

-- 4. ENTERING.

-- The table after a key was entered in a slot.
abbrev pub after_enter : LonePortView → Key → ℕ → List EntryView → LonePortView
after_enter port key slot row = record port { rows = with_row port.rows key row; pins = pinned port.pins key (Slot slot) }

-- A row of the table has at most eight entries.
row_few : (port : LonePortView) (key : Key) → IsLone port → All IsRow port.rows → length (row_of port.rows key) ≤ 8
row_few port key is rows = (All-get_or IsRow port.rows (place_of key (length port.rows)) [] (row_known port key is).row_within rows).few

row_entered : (port : LonePortView) (key : Key) (numbers : Numbers) (slot : ℕ) (row : List EntryView) → IsLone port → length (row_of port.rows key) ≤ 8
    → Enters (row_of port.rows key) (pins_of port.pins key) key numbers (Slot slot) row
    → IsEntered port.desk.position.side (row_of port.rows key) (pins_of port.pins key) key slot row
row_entered port key numbers slot row is few enters =
    entered port.desk.position.side (row_of port.rows key) (pins_of port.pins key) key numbers slot row few (row_known port key is).there enters

pub enter_keeps_at : (port : LonePortView) (key : Key) (numbers : Numbers) (slot : ℕ) (row : List EntryView) → IsLone port → length (row_of port.rows key) ≤ 8
    → Enters (row_of port.rows key) (pins_of port.pins key) key numbers (Slot slot) row → IsLone (after_enter port key slot row)
enter_keeps_at port key numbers slot row is few enters =
    let known = row_known port key is in
    let went = row_entered port key numbers slot row is few enters in
    changed_keeps port key row (set (pins_of port.pins key) slot (get_or (pins_of port.pins key) slot 0 + 1)) is
    (length-set (pins_of port.pins key) slot (get_or (pins_of port.pins key) slot 0 + 1) ∙ known.eight)
    (there_at row (row_of port.rows key) (pins_of port.pins key) slot (get_or (pins_of port.pins key) slot 0 + 1) (holds_within row key slot went.holds) went.grows known.there)
    (went.notes known.notes)

pub enter_books_at : (port : LonePortView) (key : Key) (numbers : Numbers) (slot : ℕ) (row : List EntryView) → IsLone port → length (row_of port.rows key) ≤ 8
    → Enters (row_of port.rows key) (pins_of port.pins key) key numbers (Slot slot) row
    → IsBooked (Enter key numbers, Some (Entered (Slot slot))) (book_of port) (book_of (after_enter port key slot row))
enter_books_at port key numbers slot row is few enters =
    let known = row_known port key is in
    let went = row_entered port key numbers slot row is few enters in
    let within : slot < length (pins_of port.pins key) = (let w = went.within in let e = known.eight in omega (arith, w, e)) in
    let sums = size_moves port.pins (place_of key (length port.pins)) slot (get_or (pins_of port.pins key) slot 0 + 1) known.pins_within within in
    record {
      problem = refl;
      visits = omega arith;
      most = λ h. h;
      going = refl;
      words = ap word_of (length-set port.pins (place_of key (length port.pins)) (set (pins_of port.pins key) slot (get_or (pins_of port.pins key) slot 0 + 1)));
      held = λ word. let now = held_entered port.pins key slot known.pins_within went.within within word in omega (arith, now);
      size = omega (arith, sums);
      rooms = omega arith;
    }

-- The table after a key was entered, as the program has it, is the one that the definitions say.
enter_same : (port : LonePortView) (after : List (List EntryView)) (key : Key) (p n slot : ℕ) (counts : List ℕ) (row : List EntryView) → n ≡ length port.pins → p ≡ place_of key n → p < n
    → counts ≡ get_or port.pins p counts → after ≡ with_row port.rows key row
    → after_enter port key slot row ≡ record port { rows = after; pins = set port.pins p (set counts slot (get_or counts slot 0 + 1)) }
enter_same port after key p n slot counts row long at within is others =
    ap₂ (λ (rs : List (List EntryView)) (ps : List (List ℕ)). record port { rows = rs; pins = ps }) (sym others)
    (ap₂ (λ (q : ℕ) (c : List ℕ). set port.pins q (set c slot (get_or c slot 0 + 1))) (sym (at ∙ ap (place_of key) long)) (sym (found port.pins key p n counts long at within is)))

-- Entering a key keeps what is kept.
pub enter_keeps : (port : LonePortView) (after : List (List EntryView)) (key : Key) (numbers : Numbers) (p n slot : ℕ) (counts seen : List ℕ) → IsLone port → All IsRow port.rows
    → n ≡ length port.pins → p ≡ place_of key n → p < n → counts ≡ get_or port.pins p counts → seen ≡ get_or port.pins p seen
    → EntersIn port.rows seen key numbers (Slot slot) after
    → IsLone (record port { rows = after; pins = set port.pins p (set counts slot (get_or counts slot 0 + 1)) })
enter_keeps port after key numbers p n slot counts seen is rows long at within its too enters =
    subst IsLone (enter_same port after key p n slot counts enters.row long at within its enters.others)
    (enter_keeps_at port key numbers slot enters.row is (row_few port key is rows)
    (subst (λ (c : List ℕ). Enters (row_of port.rows key) c key numbers (Slot slot) enters.row) (found port.pins key p n seen long at within too) enters.enters))

-- Entering a key is booked.
pub enter_books : (port : LonePortView) (after : List (List EntryView)) (key : Key) (numbers : Numbers) (p n slot : ℕ) (counts seen : List ℕ) → IsLone port → All IsRow port.rows
    → n ≡ length port.pins → p ≡ place_of key n → p < n → counts ≡ get_or port.pins p counts → seen ≡ get_or port.pins p seen
    → EntersIn port.rows seen key numbers (Slot slot) after
    → IsBooked (Enter key numbers, Some (Entered (Slot slot))) (book_of port) (book_of (record port { rows = after; pins = set port.pins p (set counts slot (get_or counts slot 0 + 1)) }))
enter_books port after key numbers p n slot counts seen is rows long at within its too enters =
    subst (λ (q : LonePortView). IsBooked (Enter key numbers, Some (Entered (Slot slot))) (book_of port) (book_of q))
    (enter_same port after key p n slot counts enters.row long at within its enters.others)
    (enter_books_at port key numbers slot enters.row is (row_few port key is rows)
    (subst (λ (c : List ℕ). Enters (row_of port.rows key) c key numbers (Slot slot) enters.row) (found port.pins key p n seen long at within too) enters.enters))

-- Entering a key is a step.
pub enter_turns : (port : LonePortView) (path : List Key) (after : List (List EntryView)) (key : Key) (numbers : Numbers) (p n slot : ℕ) (counts seen : List ℕ) → n ≡ length port.pins
    → p ≡ place_of key n → p < n → counts ≡ get_or port.pins p counts → seen ≡ get_or port.pins p seen → EntersIn port.rows seen key numbers (Slot slot) after
    → Turns port path (Enter key numbers) (Some (Entered (Slot slot))) (record port { rows = after; pins = set port.pins p (set counts slot (get_or counts slot 0 + 1)) })
enter_turns port path after key numbers p n slot counts seen long at within its too enters = (
  subst (λ (c : List ℕ). EntersIn port.rows c key numbers (Slot slot) after) (found port.pins key p n seen long at within too) enters,
  ap (λ (ps : List (List ℕ)). record port { rows = after; pins = ps })
      (ap₂ (λ (q : ℕ) (c : List ℕ). set port.pins q (set c slot (get_or c slot 0 + 1))) (at ∙ ap (place_of key) long) (found port.pins key p n counts long at within its)),
)

pub refuse_turns : (port : LonePortView) (path : List Key) (after : List (List EntryView)) (key : Key) (numbers : Numbers) (p n : ℕ) (seen : List ℕ) → n ≡ length port.pins
    → p ≡ place_of key n → p < n → seen ≡ get_or port.pins p seen → EntersIn port.rows seen key numbers Unkept after
    → Turns port path (Enter key numbers) (Some (Entered Unkept)) (record port { rows = after })
refuse_turns port path after key numbers p n seen long at within too enters =
    (subst (λ (c : List ℕ). EntersIn port.rows c key numbers Unkept after) (found port.pins key p n seen long at within too) enters, refl)

-- 5. LEAVING.

-- A row of the table once one of its slots was left: it has as many entries, and they are for the
-- attacker as before.
pub record IsLeft (port : LonePortView) (key : Key) (update : Update) (after : List (List EntryView)) : Type 0 where
  pub row : List EntryView
  pub is : after ≡ with_row port.rows key row
  pub long : length row ≡ length (row_of port.rows key)
  pub notes : IsSoundUpdate port.desk.position.side key update → All (AreFor port.desk.position.side) (row_of port.rows key) → All (AreFor port.desk.position.side) row

pub left_row : (port : LonePortView) (key : Key) (slot : ℕ) (update : Update) (after : List (List EntryView)) → IsLeftIn port.rows (Slot slot) key update after
    → IsLeft port key update after
left_row port key slot update after (inl updated) = record {
  row = left (row_of port.rows key) slot update;
  is = updated.1;
  long = length-left (row_of port.rows key) slot update;
  notes = λ sound notes. left_for port.desk.position.side key update (row_of port.rows key) slot sound notes;
}
left_row port key slot update after (inr other) = record {
  row = row_of port.rows key;
  is = other.1 ∙ sym (set-get_or port.rows (place_of key (length port.rows)) []);
  long = refl;
  notes = λ sound notes. notes;
}

-- And a visit is below it.
pub leave_some : (port : LonePortView) (key : Key) (p n slot : ℕ) (counts : List ℕ) → n ≡ length port.pins → p ≡ place_of key n → p < n → counts ≡ get_or port.pins p counts
    → IsOwn port.pins key slot → 1 ≤ get_or counts slot 0
leave_some port key p n slot counts long at within is mine =
    subst (λ (c : List ℕ). 1 ≤ get_or c slot 0) (sym (found port.pins key p n counts long at within is)) (let s = mine.some in omega (arith, s))

-- The table after a slot of a key was left.
abbrev pub after_leave : LonePortView → Key → ℕ → List EntryView → LonePortView
after_leave port key slot row = record port { rows = with_row port.rows key row; pins = unpinned port.pins key (Slot slot) }

-- A slot that is entered has an entry.
low_in : (port : LonePortView) (key : Key) (slot : ℕ) → IsLone port → IsOwn port.pins key slot → slot < length (row_of port.rows key)
low_in port key slot is mine = (row_known port key is).there slot mine.some

pub leave_keeps_at : (port : LonePortView) (key : Key) (slot : ℕ) (update : Update) (after : List (List EntryView)) (left_so : IsLeft port key update after) → IsLone port
    → IsOwn port.pins key slot → IsSoundUpdate port.desk.position.side key update → IsLone (after_leave port key slot left_so.row)
leave_keeps_at port key slot update after left_so is mine sound =
    let known = row_known port key is in
    let long = left_so.long in
    let there = low_in port key slot is mine in
    changed_keeps port key left_so.row (set (pins_of port.pins key) slot (get_or (pins_of port.pins key) slot 0 - 1)) is
    (length-set (pins_of port.pins key) slot (get_or (pins_of port.pins key) slot 0 - 1) ∙ known.eight)
    (there_at left_so.row (row_of port.rows key) (pins_of port.pins key) slot (get_or (pins_of port.pins key) slot 0 - 1) (omega (arith, long, there)) (omega (arith, long)) known.there)
    (left_so.notes sound known.notes)

pub leave_books_at : (port : LonePortView) (key : Key) (slot : ℕ) (update : Update) (row : List EntryView) → IsLone port → IsOwn port.pins key slot
    → IsBooked (Leave (Slot slot) key update, Some LeftIt) (book_of port) (book_of (after_leave port key slot row))
leave_books_at port key slot update row is mine =
    let known = row_known port key is in
    let some = mine.some in
    let within : slot < length (pins_of port.pins key) = (let e = known.eight in let low = mine.low in omega (arith, e, low)) in
    let sums = size_moves port.pins (place_of key (length port.pins)) slot (get_or (pins_of port.pins key) slot 0 - 1) known.pins_within within in
    record {
      problem = refl;
      visits = omega arith;
      most = λ h. h;
      going = refl;
      words = ap word_of (length-set port.pins (place_of key (length port.pins)) (set (pins_of port.pins key) slot (get_or (pins_of port.pins key) slot 0 - 1)));
      held = λ word. let now = held_left port.pins key slot known.pins_within mine.low within mine.some word in omega (arith, now);
      size = omega (arith, sums, some);
      rooms = omega arith;
    }

leave_same : (port : LonePortView) (after : List (List EntryView)) (key : Key) (p n slot : ℕ) (counts : List ℕ) (row : List EntryView) → n ≡ length port.pins → p ≡ place_of key n
    → p < n → counts ≡ get_or port.pins p counts → after ≡ with_row port.rows key row
    → after_leave port key slot row ≡ record port { rows = after; pins = set port.pins p (set counts slot (get_or counts slot 0 - 1)) }
leave_same port after key p n slot counts row long at within is others =
    ap₂ (λ (rs : List (List EntryView)) (ps : List (List ℕ)). record port { rows = rs; pins = ps }) (sym others)
    (ap₂ (λ (q : ℕ) (c : List ℕ). set port.pins q (set c slot (get_or c slot 0 - 1))) (sym (at ∙ ap (place_of key) long)) (sym (found port.pins key p n counts long at within is)))

-- Leaving a slot keeps what is kept.
pub leave_keeps : (port : LonePortView) (after : List (List EntryView)) (key : Key) (update : Update) (p n slot : ℕ) (counts : List ℕ) → IsLone port
    → n ≡ length port.pins → p ≡ place_of key n → p < n → counts ≡ get_or port.pins p counts → IsOwn port.pins key slot
    → IsSoundUpdate port.desk.position.side key update → IsLeftIn port.rows (Slot slot) key update after
    → IsLone (record port { rows = after; pins = set port.pins p (set counts slot (get_or counts slot 0 - 1)) })
leave_keeps port after key update p n slot counts is long at within its mine sound leaves =
    let left_so = left_row port key slot update after leaves in
    subst IsLone (leave_same port after key p n slot counts left_so.row long at within its left_so.is) (leave_keeps_at port key slot update after left_so is mine sound)

-- Leaving a slot is booked.
pub leave_books : (port : LonePortView) (after : List (List EntryView)) (key : Key) (update : Update) (p n slot : ℕ) (counts : List ℕ) → IsLone port
    → n ≡ length port.pins → p ≡ place_of key n → p < n → counts ≡ get_or port.pins p counts → IsOwn port.pins key slot
    → IsLeftIn port.rows (Slot slot) key update after
    → IsBooked (Leave (Slot slot) key update, Some LeftIt) (book_of port) (book_of (record port { rows = after; pins = set port.pins p (set counts slot (get_or counts slot 0 - 1)) }))
leave_books port after key update p n slot counts is long at within its mine leaves =
    let left_so = left_row port key slot update after leaves in
    subst (λ (q : LonePortView). IsBooked (Leave (Slot slot) key update, Some LeftIt) (book_of port) (book_of q))
    (leave_same port after key p n slot counts left_so.row long at within its left_so.is) (leave_books_at port key slot update left_so.row is mine)

-- 6. AT FIRST.

-- A worker in the search of a problem may begin to work over the table and the desk of it.
pub alone_suits : (port : LonePortView) (problem : Board) (expansions room rows number : ℕ) (lends : Bool) → port ≡ alone_at_first problem expansions room rows lends
    → Suits (worker_at_first problem number) (book_of port)
alone_suits port problem expansions room rows number lends is = subst (λ (q : LonePortView). Suits (worker_at_first problem number) (book_of q)) (sym is) (record {
  problem = refl;
  going = inl refl;
  held = λ word. omega arith;
  some = omega arith;
  visits = omega arith;
  size = let none = sum_by-replicate sum rows (replicate 8 0) in omega (arith, none);
  most = omega arith;
})
