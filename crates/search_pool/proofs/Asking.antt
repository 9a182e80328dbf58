-- What a request does to a table and a desk: there is one answer to it, and one table and one desk
-- behind it.
use Rattle.std.proofs.Common.{◌≡◌, ℕ, List, refl, sym, subst, ap, ap₂, ◌∙◌, arith, inl, inr}
use Rattle.std.specs.Prelude.{Some, length}
use Rattle.board_core.specs.declared.keys.Key.{Key}
use Rattle.pn_numbers.specs.declared.numbers.Numbers.{Numbers}
use Rattle.notes.specs.declared.words.Kept.{Kept}
use Rattle.notes.specs.declared.words.Kept.TheVariants.{Slot, Unkept}
use Rattle.notes.specs.declared.words.Update.{Update}
use Rattle.notes.specs.declared.words.Draw.{Draw as Drawing}
use Rattle.notes.specs.declared.words.Draw.TheVariants.{Go, Done, Spent}
use Rattle.notes.specs.declared.words.RoomAnswer.{RoomAnswer}
use Rattle.notes.specs.declared.words.RoomAnswer.TheVariants.{Room, NoRoom}
use Rattle.table_shard.specs.Entry.{EntryView}
use Rattle.table_shard.specs.Row.{left}
use Rattle.table_shard.specs.Shard.{row_of, with_row, EntersIn}
use Rattle.table_shard.specs.Spot.{place_of}
use Rattle.unit_desk.specs.Desk.{DeskView, Draws, Claims, first_posted}
use Rattle.visit_log.specs.declared.words.Request.{Request}
use Rattle.visit_log.specs.declared.words.Request.TheVariants.{Poll, Draw, Claim, Look, Enter, Leave, Post, End}
use Rattle.visit_log.specs.declared.words.Reply.{Reply}
use Rattle.visit_log.specs.declared.words.Reply.TheVariants.{Poll as Polled, Draw as Drew, Claim as Claimed, Look as Looked, Enter as Entered, Leave as LeftIt, Post as PostedIt}
use Rattle.lone_port.specs.Lone.{LonePortView, Turns, pins_of, pinned, to_whom, unpinned, goes_on, IsLeftIn}
use Rattle.search_pool.proofs.Entering.{AreApartIn, enters_apart, left_apart, rows_apart, looks_once, enters_once}

-- 1. THE DESK.

draws_once : (desk : DeskView) (d e : Drawing) (one two : DeskView) → Draws desk d one → Draws desk e two → (d ≡ e) × (one ≡ two)
draws_once desk Done Done one two h k = (refl, h.1 ∙ sym k.1)
draws_once desk Done Spent one two h k = absurd (k.0 h.0)
draws_once desk Done (Go number) one two h k = absurd (k.0 h.0)
draws_once desk Spent Done one two h k = absurd (h.0 k.0)
draws_once desk Spent Spent one two h k = (refl, h.2 ∙ sym k.2)
draws_once desk Spent (Go number) one two h k = (let all = h.1 in let less = k.1 in absurd (omega (arith, all, less)))
draws_once desk (Go number) Done one two h k = absurd (h.0 k.0)
draws_once desk (Go number) Spent one two h k = (let all = k.1 in let less = h.1 in absurd (omega (arith, all, less)))
draws_once desk (Go number) (Go other) one two h k =
    let same : number ≡ other = h.2 ∙ sym k.2 in
    (ap Go same, h.3 ∙ (ap (λ (n : ℕ). record desk { drawn = n }) same ∙ sym k.3))

claims_once : (desk : DeskView) (d e : RoomAnswer) (one two : DeskView) → Claims desk d one → Claims desk e two → (d ≡ e) × (one ≡ two)
claims_once desk NoRoom NoRoom one two h k = (refl, h.1 ∙ sym k.1)
claims_once desk NoRoom (Room note) one two h k = (let all = h.0 in let less = k.0 in absurd (omega (arith, all, less)))
claims_once desk (Room note) NoRoom one two h k = (let all = k.0 in let less = h.0 in absurd (omega (arith, all, less)))
claims_once desk (Room note) (Room other) one two h k =
    let same : note ≡ other = h.1 ∙ sym k.1 in
    (ap Room same, h.2 ∙ (ap (λ (n : ℕ). record desk { claimed = n }) same ∙ sym k.2))

-- 2. ENTERING.

pub in_once : (rows : List (List EntryView)) (pins : List ℕ) (key : Key) (numbers : Numbers) (kept other : Kept) (one two : List (List EntryView)) → AreApartIn rows
    → EntersIn rows pins key numbers kept one → EntersIn rows pins key numbers other two → (kept ≡ other) × (one ≡ two)
in_once rows pins key numbers kept other one two apart h k =
    let same = enters_once (row_of rows key) pins key numbers kept other h.row k.row (apart (place_of key (length rows))) h.enters k.enters in
    (same.0, h.others ∙ (ap (with_row rows key) same.1 ∙ sym k.others))

pub in_apart : (rows : List (List EntryView)) (pins : List ℕ) (key : Key) (numbers : Numbers) (kept : Kept) (after : List (List EntryView)) → AreApartIn rows
    → EntersIn rows pins key numbers kept after → AreApartIn after
in_apart rows pins key numbers kept after apart h =
    subst AreApartIn (sym h.others) (rows_apart rows (place_of key (length rows)) h.row apart
    (enters_apart (row_of rows key) pins key numbers kept h.row (apart (place_of key (length rows))) h.enters))

pub left_in_apart : (rows after : List (List EntryView)) (kept : Kept) (key : Key) (update : Update) → IsLeftIn rows kept key update after → AreApartIn rows → AreApartIn after
left_in_apart rows after Unkept key update h apart = subst AreApartIn (sym h) apart
left_in_apart rows after (Slot slot) key update (inl updated) apart =
    subst AreApartIn (sym updated.1)
    (rows_apart rows (place_of key (length rows)) (left (row_of rows key) slot update) apart (left_apart (row_of rows key) slot update (apart (place_of key (length rows)))))
left_in_apart rows after (Slot slot) key update (inr other) apart = subst AreApartIn (sym other.1) apart

pub left_in_once : (rows one two : List (List EntryView)) (kept : Kept) (key : Key) (update : Update) → IsLeftIn rows kept key update one → IsLeftIn rows kept key update two → one ≡ two
left_in_once rows one two Unkept key update h k = h ∙ sym k
left_in_once rows one two (Slot slot) key update (inl h) (inl k) = h.1 ∙ sym k.1
left_in_once rows one two (Slot slot) key update (inl h) (inr k) = absurd (k.0 h.0)
left_in_once rows one two (Slot slot) key update (inr h) (inl k) = absurd (h.0 k.0)
left_in_once rows one two (Slot slot) key update (inr h) (inr k) = h.1 ∙ sym k.1

-- 3. ANY REQUEST.

-- A request that isn't refused memory has one answer, and leaves one table and one desk.
pub turns_once : (before : LonePortView) (path : List Key) (q : Request) (a b : Reply) (one two : LonePortView) → AreApartIn before.rows
    → Turns before path q (Some a) one → Turns before path q (Some b) two → (a ≡ b) × (one ≡ two)
turns_once before path Poll (Polled s) (Polled t) one two apart h k = (ap Polled (h.0 ∙ sym k.0), h.1 ∙ sym k.1)
turns_once before path Poll (Polled s) b one two apart h k = absurd k
turns_once before path Poll a b one two apart h k = absurd h
turns_once before path Draw (Drew d) (Drew e) one two apart h k =
    let same = draws_once before.desk d e one.desk two.desk h.0 k.0 in (
      ap Drew same.0,
      h.1 ∙ (ap₂ (λ (desk : DeskView) (x : Drawing). record before { desk = desk; going = goes_on (Drew x) before.going }) same.1 same.0 ∙ sym k.1),
    )
turns_once before path Draw (Drew d) b one two apart h k = absurd k
turns_once before path Draw a b one two apart h k = absurd h
turns_once before path Claim (Claimed d) (Claimed e) one two apart h k =
    let same = claims_once before.desk d e one.desk two.desk h.0 k.0 in (
      ap Claimed same.0,
      h.1 ∙ (ap₂ (λ (desk : DeskView) (x : RoomAnswer). record before { desk = desk; going = goes_on (Claimed x) before.going }) same.1 same.0 ∙ sym k.1),
    )
turns_once before path Claim (Claimed d) b one two apart h k = absurd k
turns_once before path Claim a b one two apart h k = absurd h
turns_once before path (Look key) (Looked s) (Looked t) one two apart h k =
    (ap Looked (looks_once (to_whom before) (row_of before.rows key) (pins_of before.pins key) key path s t (apart (place_of key (length before.rows))) h.0 k.0), h.1 ∙ sym k.1)
turns_once before path (Look key) (Looked s) b one two apart h k = absurd k
turns_once before path (Look key) a b one two apart h k = absurd h
turns_once before path (Enter key numbers) (Entered kept) (Entered other) one two apart h k =
    let same = in_once before.rows (pins_of before.pins key) key numbers kept other one.rows two.rows apart h.0 k.0 in (
      ap Entered same.0,
      h.1 ∙ (ap₂ (λ (rows : List (List EntryView)) (x : Kept). record before { rows = rows; pins = pinned before.pins key x }) same.1 same.0 ∙ sym k.1),
    )
turns_once before path (Enter key numbers) (Entered kept) b one two apart h k = absurd k
turns_once before path (Enter key numbers) a b one two apart h k = absurd h
turns_once before path (Leave kept key update) LeftIt LeftIt one two apart h k =
    let rows = left_in_once before.rows one.rows two.rows kept key update h.0 k.0 in
    (refl, h.1 ∙ (ap (λ (rs : List (List EntryView)). record before { rows = rs; pins = unpinned before.pins key kept }) rows ∙ sym k.1))
turns_once before path (Leave kept key update) LeftIt b one two apart h k = absurd k
turns_once before path (Leave kept key update) a b one two apart h k = absurd h
turns_once before path (Post note) PostedIt PostedIt one two apart h k = (refl, h ∙ sym k)
turns_once before path (Post note) PostedIt b one two apart h k = absurd k
turns_once before path (Post note) a b one two apart h k = absurd h
turns_once before path (End end) a b one two apart h k = absurd h

rows_by : (one two : LonePortView) → one ≡ two → AreApartIn two.rows → AreApartIn one.rows
rows_by one two e apart = subst (λ (p : LonePortView). AreApartIn p.rows) (sym e) apart

-- No two entries of a row come to be of one key.
pub turns_apart : (before : LonePortView) (path : List Key) (q : Request) (a : Reply) (after : LonePortView) → AreApartIn before.rows
    → Turns before path q (Some a) after → AreApartIn after.rows
turns_apart before path Poll (Polled s) after apart h = rows_by after before h.1 apart
turns_apart before path Poll a after apart h = absurd h
turns_apart before path Draw (Drew d) after apart h = rows_by after (record before { desk = after.desk; going = goes_on (Drew d) before.going }) h.1 apart
turns_apart before path Draw a after apart h = absurd h
turns_apart before path Claim (Claimed d) after apart h = rows_by after (record before { desk = after.desk; going = goes_on (Claimed d) before.going }) h.1 apart
turns_apart before path Claim a after apart h = absurd h
turns_apart before path (Look key) (Looked seen) after apart h = rows_by after before h.1 apart
turns_apart before path (Look key) a after apart h = absurd h
turns_apart before path (Enter key numbers) (Entered kept) after apart h = in_apart before.rows (pins_of before.pins key) key numbers kept after.rows apart h.0
turns_apart before path (Enter key numbers) a after apart h = absurd h
turns_apart before path (Leave kept key update) LeftIt after apart h = left_in_apart before.rows after.rows kept key update h.0 apart
turns_apart before path (Leave kept key update) a after apart h = absurd h
turns_apart before path (Post note) PostedIt after apart h =
    rows_by after (record before { desk = record before.desk { posted = first_posted before.desk.posted note } }) h apart
turns_apart before path (Post note) a after apart h = absurd h
turns_apart before path (End end) a after apart h = absurd h
