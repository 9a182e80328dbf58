-- What the port does at each request.
use Rattle.std.proofs.Common.{◌≡◌, ◌<◌, ◌≤◌, ◌+◌, ◌*◌, ℕ, Bool, List, length, inl, inr, refl, subst, ap, arith, eq-eqb, ◌∙◌, ap₂, sym}
use Rattle.std.specs.Prelude.{Option, Some, None, Result, Ok, Err, ◌==◌, if◌then◌else◌, ◌&&◌}
use Rattle.std.proofs.lemmas.Bool.{cases_lt}
use Rattle.bit_boards.specs.declared.piece.Side.{Side}
use Rattle.board_core.specs.Board.{Board}
use Rattle.board_core.specs.declared.keys.Key.{Key}
use Rattle.pn_numbers.specs.declared.numbers.Numbers.{Numbers}
use Rattle.notes.specs.declared.words.Kept.{Kept}
use Rattle.notes.specs.declared.words.Kept.TheVariants.{Slot}
use Rattle.notes.specs.declared.words.Seen.{Seen}
use Rattle.notes.specs.declared.words.Update.{Update}
use Rattle.search_gate.specs.Stop.{Signal}
use Rattle.table_shard.specs.Row.{LooksBy}
use Rattle.table_shard.specs.Shard.{row_of}
use Rattle.table_shard.specs.Spot.{hash_of, word_of}
use Rattle.table_shard.specs.declared.hash.Site.{Site}
use Rattle.visit_log.specs.Counts.{slot_once}
use Rattle.visit_log.specs.declared.words.Request.TheVariants.{Look, Enter, Leave}
use Rattle.visit_log.specs.declared.words.Reply.TheVariants.{Enter as Entered, Leave as LeftIt}
use Rattle.worker_core.specs.Port.{IsBooked, shown, Suits}
use Rattle.lone_port.specs.Lone.{worker_at_first}
use Rattle.worker_counts.specs.Counts.{times, without_one, AreBelow, OneLessCounts, LessIsShorter}
use Rattle.lone_port.proofs.Offered.{word_past}
use Rattle.shared_table.specs.Calls.{EntersAndAdds, LeavesAndSubtracts, MayLeave, IsSiteOf}
use Rattle.shared_table.specs.Rows.{ShardRows, RanOn}
use Rattle.shared_table.specs.Seat.{RowSeatView, at_row, Loads}
use Rattle.table_port.specs.Port.{TablePortView, TableTurns, book_of, all_rows, shard_of, first_word, IsUnused}
use Rattle.table_port.specs.Tasks.{ShowsAt}

-- 1. WHERE IT IS ASKED.

-- A port asks at a site: its shard has the key's row, whose first slot has its word.
pub record AsksAt (port : TablePortView) (key : Key) (site : Site) : Type 0 where
  pub shard : site.shard ≡ shard_of port.cut key
  pub word : site.word ≡ first_word port.cut key

-- The site that is reckoned from a key is the key's.
pub site_is : (site : Site) (key : Key) (rows words : ℕ) → site.hash ≡ hash_of key.0 → words ≡ 8 * rows → site.word + 8 ≤ 8 * rows
    → ((s : ℕ) → s < 8 → word_of rows key s ≡ site.word + s) → IsSiteOf site key words
site_is site key rows words hash eight inside named = record {
  hash = hash;
  inside = omega (arith, eight, inside);
  word = λ others is.
      let same : rows ≡ others = omega (arith, eight, is) in
      let here = named 0 (omega arith) in
      let mine : site.word ≡ word_of rows key 0 = omega (arith, here) in
      mine ∙ ap (λ (n : ℕ). word_of n key 0) same;
}

-- What ran for one name of the attacker ran for the other.
pub for_side : (attacker side : Side) (before after : Option (List ShardRows)) (shard : ℕ) (ran : ShardRows → ShardRows → Type 0) → attacker ≡ side
    → RanOn attacker before after shard ran → RanOn side before after shard ran
for_side attacker side before after shard ran is h = subst (λ (s : Side). RanOn s before after shard ran) is h

-- What follows from what ran, ran.
pub ran_map : (attacker : Side) (before after : Option (List ShardRows)) (shard : ℕ) (ran did : ShardRows → ShardRows → Type 0) → ((old new : ShardRows) → ran old new → did old new)
    → RanOn attacker before after shard ran → RanOn attacker before after shard did
ran_map attacker None after shard ran did so (is, (old, new, h)) = (is, (old, new, record { before = h.before; after = h.after; did = so old new h.did }))
ran_map attacker (Some shards) after shard ran did so (old, new, there, is, h) = (old, new, there, is, record { before = h.before; after = h.after; did = so old new h.did })

-- A task ran on some shard.
pub ran_some : (attacker : Side) (before after : Option (List ShardRows)) (shard : ℕ) (ran : ShardRows → ShardRows → Type 0) → RanOn attacker before after shard ran
    → (old : ShardRows) × (new : ShardRows) × ran old new
ran_some attacker None after shard ran (is, (old, new, h)) = (old, new, h.did)
ran_some attacker (Some shards) after shard ran (old, new, there, is, h) = (old, new, h.did)

-- 2. REQUESTS ARE STEPS.

pub look_turns : {E : Type 0} (port : TablePortView) (shards : Option (List ShardRows)) (seat : RowSeatView) (signal : Signal) (path : List Key) (key : Key) (site : Site) (r : Result Seen E)
    → AsksAt port key site → RanOn port.desk.desk.position.side port.shards shards site.shard (λ old new. (new ≡ old) × ShowsAt port.cut.to site key path port.seat old seat r)
    → TableTurns port signal path (Look key) (shown r) (record port { shards = shards; seat = seat }) signal
look_turns port shards seat signal path key site (Ok seen) is ran = (
  (
    subst (λ (n : ℕ). RanOn port.desk.desk.position.side port.shards shards n (λ old new. (new ≡ old) × LooksBy Loads port.cut.to (row_of old key) key path (at_row port.seat (first_word port.cut key)) seen seat)) is.shard
        (subst (λ (w : ℕ). RanOn port.desk.desk.position.side port.shards shards site.shard (λ old new. (new ≡ old) × LooksBy Loads port.cut.to (row_of old key) key path (at_row port.seat w) seen seat)) is.word ran),
    refl,
  ),
  refl,
)
look_turns port shards seat signal path key site (Err error) is ran = (
  (
    subst (λ (n : ℕ). RanOn port.desk.desk.position.side port.shards shards n (λ old new. (new ≡ old) × (at_row port.seat (first_word port.cut key) ≡ seat))) is.shard
        (subst (λ (w : ℕ). RanOn port.desk.desk.position.side port.shards shards site.shard (λ old new. (new ≡ old) × (at_row port.seat w ≡ seat))) is.word ran),
    refl,
  ),
  refl,
)

pub enter_turns : (port : TablePortView) (shards : Option (List ShardRows)) (seat : RowSeatView) (signal : Signal) (path : List Key) (key : Key) (numbers : Numbers) (site : Site) (kept : Kept)
    → AsksAt port key site → RanOn port.desk.desk.position.side port.shards shards site.shard (λ old new. EntersAndAdds old (at_row port.seat site.word) key numbers kept new seat)
    → TableTurns port signal path (Enter key numbers) (Some (Entered kept)) (record port { shards = shards; seat = seat }) signal
enter_turns port shards seat signal path key numbers site kept is ran = (
  (
    subst (λ (n : ℕ). RanOn port.desk.desk.position.side port.shards shards n (λ old new. EntersAndAdds old (at_row port.seat (first_word port.cut key)) key numbers kept new seat)) is.shard
        (subst (λ (w : ℕ). RanOn port.desk.desk.position.side port.shards shards site.shard (λ old new. EntersAndAdds old (at_row port.seat w) key numbers kept new seat)) is.word ran),
    refl,
  ),
  refl,
)

pub leave_turns : (port : TablePortView) (shards : Option (List ShardRows)) (seat : RowSeatView) (signal : Signal) (path : List Key) (key : Key) (update : Update) (site : Site) (slot : ℕ)
    → AsksAt port key site → RanOn port.desk.desk.position.side port.shards shards site.shard (λ old new. LeavesAndSubtracts old (at_row port.seat site.word) (Slot slot) key update new seat)
    → TableTurns port signal path (Leave (Slot slot) key update) (Some LeftIt) (record port { shards = shards; seat = seat }) signal
leave_turns port shards seat signal path key update site slot is ran = (
  (
    subst (λ (n : ℕ). RanOn port.desk.desk.position.side port.shards shards n (λ old new. LeavesAndSubtracts old (at_row port.seat (first_word port.cut key)) (Slot slot) key update new seat)) is.shard
        (subst (λ (w : ℕ). RanOn port.desk.desk.position.side port.shards shards site.shard (λ old new. LeavesAndSubtracts old (at_row port.seat w) (Slot slot) key update new seat)) is.word ran),
    refl,
  ),
  refl,
)

-- 3. WHAT IS LEFT WAS ENTERED.

-- Whether a test is true.
abbrev chosen : Bool → ℕ
chosen b = if b then 1 else 0

-- A slot that a seat has added to is one of the eight, and its word was added.
pub may_leave : (rows : ℕ) (key : Key) (slot word : ℕ) (seat : RowSeatView) → AreBelow (8 * rows) seat.seat.view.added
    → ((w : ℕ) → slot_once (word_of rows) (Slot slot) key w ≤ times w seat.seat.view.added) → ((s : ℕ) → s < 8 → word_of rows key s ≡ word + s)
    → MayLeave (at_row seat word) (Slot slot)
may_leave rows key slot word seat below held words = elim (cases_lt slot 8) [
  | inl low ↦ (low, subst (λ (w : ℕ). 0 < times w seat.seat.view.added) (words slot low) some)
  | inr high ↦ absurd (
      let past = word_past rows key slot high in
      let none = below (word_of rows key slot) (omega (arith, past)) in
      omega (arith, none, some))
]
  where
    some : 0 < times (word_of rows key slot) seat.seat.view.added
    some =
        let h = held (word_of rows key slot) in
        let one : slot_once (word_of rows) (Slot slot) key (word_of rows key slot) ≡ 1 = ap chosen (eq-eqb (word_of rows key slot) (word_of rows key slot) refl) in
        omega (arith, h, one)

-- What is left is booked.
pub leave_books : (port : TablePortView) (shards : Option (List ShardRows)) (seat : RowSeatView) (key : Key) (update : Update) (site : Site) (slot : ℕ) → OneLessCounts → LessIsShorter
    → ((s : ℕ) → s < 8 → word_of (all_rows port.cut) key s ≡ site.word + s) → MayLeave (at_row port.seat site.word) (Slot slot)
    → RanOn port.desk.desk.position.side port.shards shards site.shard (λ old new. LeavesAndSubtracts old (at_row port.seat site.word) (Slot slot) key update new seat)
    → IsBooked (Leave (Slot slot) key update, Some LeftIt) (book_of port) (book_of (record port { shards = shards; seat = seat }))
leave_books port shards seat key update site slot less shorter words may ran =
    let added = port.seat.seat.view.added in
    let mine = site.word + slot in
    let went = ran_some port.desk.desk.position.side port.shards shards site.shard (λ old new. LeavesAndSubtracts old (at_row port.seat site.word) (Slot slot) key update new seat) ran in
    let now : seat.seat.view.added ≡ without_one mine added = ap (λ (s : RowSeatView). s.seat.view.added) went.2.subtracts.1 in
    let named : word_of (all_rows port.cut) key slot ≡ mine = words slot may.0 in
    record {
      problem = refl;
      visits = omega arith;
      most = λ h. h;
      going = refl;
      words = refl;
      held = λ word.
          let one = less word mine added may.1 in
          let is : slot_once (word_of (all_rows port.cut)) (Slot slot) key word ≡ chosen (mine == word) = ap (λ (w : ℕ). chosen (w == word)) named in
          let count : times word seat.seat.view.added ≡ times word (without_one mine added) = ap (times word) now in
          omega (arith, one, is, count);
      size = let one = shorter mine added may.1 in let long = ap length now in omega (arith, one, long);
      rooms = omega arith;
    }

-- 4. BEFORE ANYTHING IS ASKED.

-- A worker may begin to work over unused seats.
pub unused_suits : (port : TablePortView) (problem : Board) (number : ℕ) → port.desk.desk.position ≡ problem → IsUnused port.seat port.desk
    → Suits (worker_at_first problem number) (book_of port)
unused_suits port problem number same unused =
    let none : length port.desk.visits ≡ 0 = ap length unused.visits in
    let empty : length port.seat.seat.view.added ≡ 0 = ap length unused.added in
    record {
      problem = sym same;
      going = inl (ap₂ (λ (d c : ℕ). (d == 0) && (c == 0)) unused.draws unused.claims);
      held = λ word. omega arith;
      some = omega arith;
      visits = omega arith;
      size = omega (arith, empty, none);
      most = omega (arith, none);
    }
