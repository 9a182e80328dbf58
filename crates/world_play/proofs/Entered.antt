-- A step gives up no entry that a visit has entered.
use Rattle.std.proofs.Common.{◌≡◌, inl, inr, ℕ, ◌<◌, List, [], length, get_or, sym, ap, ◌∙◌, subst, Bool, length-set}
use Rattle.std.specs.Prelude.{Option, Some, None, slice_index}
use Rattle.std.proofs.lemmas.Bool.{cases_eq}
use Rattle.std.proofs.lemmas.List.{get_or-set_same, get_or-set_other}
use Rattle.board_core.specs.declared.keys.Key.{Key}
use Rattle.notes.specs.declared.words.Kept.TheVariants.{Slot, Unkept}
use Rattle.table_shard.specs.Entry.{EntryView}
use Rattle.table_shard.specs.Row.{HoldsAt, IsGivenUp, left}
use Rattle.table_shard.specs.Shard.{row_of, with_row}
use Rattle.table_shard.specs.Spot.{place_of}
use Rattle.table_shard.proofs.Offered.{place_within, enters_stays, left_stays}
use Rattle.visit_log.specs.declared.words.Request.{Request}
use Rattle.visit_log.specs.declared.words.Request.TheVariants.{Poll, Draw as Draws, Claim as Claims, Look, Enter, Leave, Post}
use Rattle.visit_log.specs.declared.words.Reply.{Reply}
use Rattle.visit_log.specs.declared.words.Reply.TheVariants.{Poll as Polled, Draw as Drew, Claim as Claimed, Look as Looked, Enter as Entered, Leave as LeftIt, Post as PostedIt}
use Rattle.visit_log.specs.Machine.{path_of}
use Rattle.lone_port.specs.Lone.{LonePortView, IsLone, Turns, opened, pins_of}
use Rattle.world_play.specs.Promises.{StepsKeepEntered}

-- 1. IN A ROW.

-- The entry that is given up is not below a visit.
given_up_idle : (row : List EntryView) (pins : List ℕ) (slot : ℕ) → IsGivenUp row pins slot → slice_index pins slot ≡ 0
given_up_idle row pins slot (inl first) = first.has.idle.unpinned
given_up_idle row pins slot (inr first) = first.1.has.unpinned

-- 2. IN A TABLE.

-- Where what is in the changed row stays, with a visit below, all stays.
row_keeps : (port : LonePortView) (key : Key) (row : List EntryView) (rows : List (List EntryView)) (k : Key) (s : ℕ) → IsLone port → rows ≡ with_row port.rows key row
    → (0 < slice_index (pins_of port.pins key) s → HoldsAt (row_of port.rows key) s k → HoldsAt row s k)
    → HoldsAt (row_of port.rows k) s k → 0 < slice_index (pins_of port.pins k) s → HoldsAt (row_of rows k) s k
row_keeps port key row rows k s lone is stays there some =
    let n = length port.rows in
    let low = place_within key n lone.some in
    let long : length (with_row port.rows key row) ≡ n = length-set port.rows (place_of key n) row in
    subst (λ (r : List (List EntryView)). HoldsAt (row_of r k) s k) (sym is)
    (subst (λ (m : ℕ). HoldsAt (get_or (with_row port.rows key row) (place_of k m) []) s k) (sym long)
    (elim (cases_eq (place_of k n) (place_of key n)) as (λ _. HoldsAt (get_or (with_row port.rows key row) (place_of k n) []) s k) [
      | inl same ↦ (
          let r : get_or (with_row port.rows key row) (place_of k n) [] ≡ row =
          ap (λ (p : ℕ). get_or (with_row port.rows key row) p []) same ∙ get_or-set_same port.rows (place_of key n) row [] low in
          let old : row_of port.rows k ≡ row_of port.rows key = ap (λ (p : ℕ). get_or port.rows p []) same in
          let pin : pins_of port.pins k ≡ pins_of port.pins key =
          ap (λ (m : ℕ). get_or port.pins (place_of k m) []) lone.as_many
          ∙ (ap (λ (p : ℕ). get_or port.pins p []) same ∙ ap (λ (m : ℕ). get_or port.pins (place_of key m) []) (sym lone.as_many)) in
          subst (λ (z : List EntryView). HoldsAt z s k) (sym r)
          (stays (subst (λ (z : List ℕ). 0 < slice_index z s) pin some) (subst (λ (z : List EntryView). HoldsAt z s k) old there)))
      | inr ne ↦ (
          let r : get_or (with_row port.rows key row) (place_of k n) [] ≡ row_of port.rows k = get_or-set_other port.rows (place_of key n) (place_of k n) row [] ne in
          subst (λ (z : List EntryView). HoldsAt z s k) (sym r) there)
    ]))

-- 3. A STEP.

same_rows : (port after : LonePortView) (k : Key) (s : ℕ) → after.rows ≡ port.rows → HoldsAt (row_of port.rows k) s k → HoldsAt (row_of after.rows k) s k
same_rows port after k s e h = subst (λ (r : List (List EntryView)). HoldsAt (row_of r k) s k) (sym e) h

-- A visit is below the slot of the key, which holds its entry.
abbrev pub IsBelowSlot : LonePortView → Key → ℕ → Type 0
IsBelowSlot port k s = HoldsAt (row_of port.rows k) s k × (0 < slice_index (pins_of port.pins k) s)

pub turn_keeps : (port : LonePortView) (path : List Key) (q : Request) (a : Option Reply) (after : LonePortView) (k : Key) (s : ℕ) → IsLone port → IsBelowSlot port k s
    → Turns port path q a after → HoldsAt (row_of after.rows k) s k
turn_keeps port path Poll (Some (Polled stop)) after k s lone b h = same_rows port after k s (ap (λ (p : LonePortView). p.rows) h.1) b.0
turn_keeps port path Draws (Some (Drew draw)) after k s lone b h = same_rows port after k s (ap (λ (p : LonePortView). p.rows) h.1) b.0
turn_keeps port path Claims (Some (Claimed claim)) after k s lone b h = same_rows port after k s (ap (λ (p : LonePortView). p.rows) h.1) b.0
turn_keeps port path (Look key) None after k s lone b h = same_rows port after k s (ap (λ (p : LonePortView). p.rows) h) b.0
turn_keeps port path (Look key) (Some (Looked seen)) after k s lone b h = same_rows port after k s (ap (λ (p : LonePortView). p.rows) h.1) b.0
turn_keeps port path (Enter key numbers) (Some (Entered kept)) after k s lone b h =
    row_keeps port key h.0.row after.rows k s lone h.0.others
    (λ some there. enters_stays (row_of port.rows key) (pins_of port.pins key) key numbers kept h.0.row s k h.0.enters some there) b.0 b.1
turn_keeps port path (Leave Unkept key update) (Some LeftIt) after k s lone b h = same_rows port after k s h.0 b.0
turn_keeps port path (Leave (Slot slot) key update) (Some LeftIt) after k s lone b (inl updated, same) =
    row_keeps port key (left (row_of port.rows key) slot update) after.rows k s lone updated.1
    (λ some there. left_stays (row_of port.rows key) slot update s k there) b.0 b.1
turn_keeps port path (Leave (Slot slot) key update) (Some LeftIt) after k s lone b (inr other, same) = same_rows port after k s other.1 b.0
turn_keeps port path (Post note) (Some PostedIt) after k s lone b h = same_rows port after k s (ap (λ (p : LonePortView). p.rows) h) b.0
turn_keeps port path q a after k s lone b h = absurd h

pub opened_lone : (port : LonePortView) (stops : Bool) → IsLone port → IsLone (opened port stops)
opened_lone port stops l = record { some = l.some; as_many = l.as_many; eight = l.eight; there = l.there; notes = l.notes }

pub steps_keep : StepsKeepEntered
steps_keep stops port worker x after later lone steps key slot there some =
    turn_keeps (opened port stops) (path_of worker.task worker.state.frames) x.0 x.1 after key slot (opened_lone port stops lone) (there, some) steps.turns
