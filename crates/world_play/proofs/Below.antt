-- The count of a key's slot is that of the visits of the key's position, over all workers.
use Rattle.std.proofs.Common.{◌≡◌, ◌≢◌, inl, inr, ℕ, suc, ◌<◌, List, [], ◌∷◌, length, get_or, arith, refl, sym, ap, ap₂, ◌∙◌, subst, ◌⊎◌, ◌≤◌, Bool, true, false}
use Rattle.std.specs.Prelude.{Option, Some, None, IsSomeAnd, All, slice_get, ◌==◌, if◌then◌else◌}
use Rattle.std.specs.Ordering.{is_eq}
use Rattle.std.proofs.lemmas.Bool.{cases_lt, cases_eq, cases_Bool, eq-eqb, ne_eqb}
use Rattle.std.proofs.lemmas.List.{get_or_past}
use Rattle.std.proofs.lemmas.List.Elements.{All-get_or}
use Rattle.std.proofs.lemmas.List.Sums.{sum_by-cons}
use Rattle.std.proofs.lemmas.Option.{slice_get_within, get_or_from_slice_get}
use Rattle.board_laws.proofs.Keys.{same_from_test, test_from_same}
use Rattle.board_core.specs.declared.keys.Key.{Key}
use Rattle.board_core.specs.KeyOrder.{key_cmp}
use Rattle.notes.specs.declared.words.Kept.{Kept}
use Rattle.notes.specs.declared.words.Kept.TheVariants.{Slot, Unkept}
use Rattle.table_shard.specs.Entry.{EntryView}
use Rattle.table_shard.specs.Row.{HoldsAt, Lacks, IsRow}
use Rattle.table_shard.specs.Shard.{row_of}
use Rattle.table_shard.specs.Spot.{place_of, word_of}
use Rattle.table_shard.proofs.Offered.{place_within, holds_within}
use Rattle.visit_log.specs.Frame.{FrameView}
use Rattle.visit_log.specs.Run.{WorkerView}
use Rattle.visit_log.specs.Counts.{own_slots, slot_of}
use Rattle.lone_port.specs.Lone.{IsLone, IsBelow}
use Rattle.lone_port.proofs.Offered.{held_here, word_here, word_past}
use Rattle.lone_port.specs.World.{World}
use Rattle.world_play.specs.Fair.{IsFair, only, all_slots, all_below, own_below, key_once}
use Rattle.world_play.proofs.Suited.{one_within}
use Rattle.world_play.proofs.Holding.{this_only}

-- 0. THE KEY'S ROW.

lacks_none : (row : List EntryView) (s : ℕ) (key : Key) → Lacks row key → HoldsAt row s key → ⊥
lacks_none row s key lacks there = by_slot (slice_get row s) refl there
  where
    by_slot : (o : Option EntryView) → slice_get row s ≡ o → IsSomeAnd o (λ e. e.key ≡ key) → ⊥
    by_slot None is h = h
    by_slot (Some e) is h =
        let p = All-get_or (λ (z : EntryView). z.key ≢ key) row s e (slice_get_within row s e is) lacks in
        p (ap (λ (z : EntryView). z.key) (get_or_from_slice_get row s e e is) ∙ h)

row_is : (world : World) → IsLone world.port → All IsRow world.port.rows → (key : Key) → IsRow (row_of world.port.rows key)
row_is world lone rows key = All-get_or IsRow world.port.rows (place_of key (length world.port.rows)) [] (place_within key (length world.port.rows) lone.some) rows

-- Slots of one word are one slot of one row: so where each holds an entry, they are of one key.
same_word : (rows : List (List EntryView)) (n : ℕ) (key of : Key) (slot number : ℕ) → n ≡ length rows → IsRow (row_of rows key) → slot < 8
    → HoldsAt (row_of rows key) slot key → HoldsAt (row_of rows of) number of → word_of n of number ≡ word_of n key slot → key ≡ of
same_word rows n key of slot number long is low there here same =
    elim (cases_lt number 8) [
      | inl few ↦
          let one = word_here n of number few in
          let two = word_here n key slot low in
          let place : place_of of n ≡ place_of key n = omega (arith, same, one, two, few, low) in
          let slots : number ≡ slot = omega (arith, same, one, two, few, low) in
          let row : row_of rows of ≡ row_of rows key = ap (λ (m : ℕ). get_or rows (place_of of m) []) (sym long) ∙ (ap (λ (p : ℕ). get_or rows p []) place ∙ ap (λ (m : ℕ). get_or rows (place_of key m) []) long) in
          one_entry (slice_get (row_of rows key) slot) key of there
          (subst (λ (s : ℕ). HoldsAt (row_of rows key) s of) slots (subst (λ (r : List EntryView). HoldsAt r number of) row here))
      | inr many ↦ absurd (past many)
    ]
  where
    one_entry : (o : Option EntryView) (k l : Key) → IsSomeAnd o (λ e. e.key ≡ k) → IsSomeAnd o (λ e. e.key ≡ l) → k ≡ l
    one_entry None k l h i = absurd h
    one_entry (Some e) k l h i = sym h ∙ i

    past : 8 ≤ number → ⊥
    past many =
        let two = word_here n key slot low in
        let one = word_past n of number many in
        let within : place_of key n < n = there_place (slice_get (row_of rows key) slot) there in
        omega (arith, one, two, same, within, low)
      where
        there_place : (o : Option EntryView) → HoldsAt (row_of rows key) slot key → place_of key n < n
        there_place o h = elim (cases_lt (place_of key n) n) [
          | inl inside ↦ inside
          | inr outside ↦
              let none : row_of rows key ≡ [] = get_or_past rows (place_of key (length rows)) [] (let e = ap (place_of key) long in omega (arith, outside, long, e)) in
              absurd (subst (λ (r : List EntryView). HoldsAt r slot key) none h)
        ]

-- 1. ONE WORKER.

-- What visits have entered is held: of each that has entered a slot the slot holds an entry of its
-- key.
abbrev AreHeld : List (List EntryView) → List FrameView → Type 0
AreHeld rows fs = (key : Key) (slot : ℕ) → 0 < own_slots (only key slot) fs 1 → HoldsAt (row_of rows key) slot key

abbrev once : Bool → ℕ
once b = if b then 1 else 0

-- The slot that a visit of the key has entered is the one with the key's entry; a visit of another
-- key has entered no slot of its word.
own_one : (rows : List (List EntryView)) (n : ℕ) (key : Key) (slot : ℕ) → n ≡ length rows → IsRow (row_of rows key) → slot < 8 → HoldsAt (row_of rows key) slot key
    → (kept : Option Kept) (of : Key) → ((k : Key) (s : ℕ) → 0 < slot_of (only k s) kept of 1 → HoldsAt (row_of rows k) s k)
    → key_once kept of key ≡ slot_of (word_of n) kept of (word_of n key slot)
own_one rows n key slot long is low there None of held = refl
own_one rows n key slot long is low there (Some Unkept) of held = refl
own_one rows n key slot long is low there (Some (Slot number)) of held =
    let here : HoldsAt (row_of rows of) number of = held of number (let one = this_only of number in omega (arith, one)) in
    elim (cases_eq (word_of n of number) (word_of n key slot)) [
      | inl same ↦
          let keys = same_word rows n key of slot number long is low there here same in
          ap once (test_from_same of key (sym keys)) ∙ sym (ap once (eq-eqb _ _ same))
      | inr not ↦ apart not (cases_Bool (is_eq (key_cmp of key)))
    ]
  where
    apart : (word_of n of number ≡ word_of n key slot → ⊥) → (is_eq (key_cmp of key) ≡ true) ⊎ (is_eq (key_cmp of key) ≡ false)
        → once (is_eq (key_cmp of key)) ≡ once (word_of n of number == word_of n key slot)
    apart not (inr other) = ap once other ∙ sym (ap once (ne_eqb _ _ not))
    apart not (inl same) =
        let keys : of ≡ key = same_from_test of key same in
        let here : HoldsAt (row_of rows of) number of = held of number (let one = this_only of number in omega (arith, one)) in
        let one : number ≡ slot = is.apart number slot key (subst (λ (k : Key). HoldsAt (row_of rows k) number k) keys here) there in
        absurd (not (ap₂ (word_of n) keys one))

own_is : (rows : List (List EntryView)) (n : ℕ) (key : Key) (slot : ℕ) → n ≡ length rows → IsRow (row_of rows key) → slot < 8 → HoldsAt (row_of rows key) slot key
    → (fs : List FrameView) → AreHeld rows fs → own_below fs key ≡ own_slots (word_of n) fs (word_of n key slot)
own_is rows n key slot long is low there [] held = refl
own_is rows n key slot long is low there (f ∷ fs) held =
    let one = own_one rows n key slot long is low there f.kept f.place.key (λ k s some. held k s (omega (arith, some))) in
    let rest = own_is rows n key slot long is low there fs (λ k s some. held k s (omega (arith, some))) in
    omega (arith, one, rest)

-- 2. ALL WORKERS.

all_is : (rows : List (List EntryView)) (n : ℕ) (key : Key) (slot : ℕ) → n ≡ length rows → IsRow (row_of rows key) → slot < 8 → HoldsAt (row_of rows key) slot key
    → (ws : List WorkerView) → ((i : ℕ) (w : WorkerView) → slice_get ws i ≡ Some w → AreHeld rows w.state.frames)
    → all_below ws key ≡ all_slots (word_of n) ws (word_of n key slot)
all_is rows n key slot long is low there [] held = refl
all_is rows n key slot long is low there (w ∷ ws) held =
    let a = sum_by-cons (λ (v : WorkerView). own_below v.state.frames key) w ws in
    let b = sum_by-cons (λ (v : WorkerView). own_slots (word_of n) v.state.frames (word_of n key slot)) w ws in
    let one = own_is rows n key slot long is low there w.state.frames (held 0 w refl) in
    let rest = all_is rows n key slot long is low there ws (λ i v e. held (suc i) v e) in
    omega (arith, a, b, one, rest)

-- Where a worker has entered a slot for the key, that slot holds its entry.
entered_holds : (world : World) → IsFair world → (i : ℕ) (w : WorkerView) → slice_get world.workers i ≡ Some w → AreHeld world.port.rows w.state.frames
entered_holds world fair i w e key slot some =
    let one = one_within (λ (v : WorkerView). own_slots (only key slot) v.state.frames 1) world.workers i w e in
    fair.entered key slot (omega (arith, one, some))

-- A visit of a key that none of its row's slots has entered nothing.
own_none : (rows : List (List EntryView)) (key : Key) → Lacks (row_of rows key) key → (fs : List FrameView) → AreHeld rows fs → own_below fs key ≡ 0
own_none rows key lacks [] held = refl
own_none rows key lacks (f ∷ fs) held =
    let one = none_kept f.kept f.place.key (λ k s some. held k s (omega (arith, some))) in
    let rest = own_none rows key lacks fs (λ k s some. held k s (omega (arith, some))) in
    omega (arith, one, rest)
  where
    none_kept : (kept : Option Kept) (of : Key) → ((k : Key) (s : ℕ) → 0 < slot_of (only k s) kept of 1 → HoldsAt (row_of rows k) s k) → key_once kept of key ≡ 0
    none_kept None of inner = refl
    none_kept (Some Unkept) of inner = refl
    none_kept (Some (Slot number)) of inner = elim (cases_Bool (is_eq (key_cmp of key))) [
      | inr other ↦ ap once other
      | inl same ↦
          let keys : of ≡ key = same_from_test of key same in
          let here : HoldsAt (row_of rows of) number of = inner of number (let one = this_only of number in omega (arith, one)) in
          absurd (lacks_none (row_of rows key) number key lacks (subst (λ (k : Key). HoldsAt (row_of rows k) number k) keys here))
    ]

all_none : (rows : List (List EntryView)) (key : Key) → Lacks (row_of rows key) key → (ws : List WorkerView)
    → ((i : ℕ) (w : WorkerView) → slice_get ws i ≡ Some w → AreHeld rows w.state.frames) → all_below ws key ≡ 0
all_none rows key lacks [] held = refl
all_none rows key lacks (w ∷ ws) held =
    let a = sum_by-cons (λ (v : WorkerView). own_below v.state.frames key) w ws in
    let one = own_none rows key lacks w.state.frames (held 0 w refl) in
    let rest = all_none rows key lacks ws (λ i v e. held (suc i) v e) in
    omega (arith, a, one, rest)

-- 3. THE COUNT.

pub below_is : (world : World) (key : Key) (count : ℕ) → IsFair world → IsLone world.port → All IsRow world.port.rows → IsBelow world.port.rows world.port.pins key count
    → count ≡ all_below world.workers key
below_is world key count fair lone rows (inl (slot, there, e)) =
    let row = row_is world lone rows key in
    let low : slot < 8 = let inside = holds_within (row_of world.port.rows key) key slot there in let few = row.few in omega (arith, inside, few) in
    let all = all_is world.port.rows (length world.port.pins) key slot lone.as_many row low there world.workers (entered_holds world fair) in
    e ∙ (sym (held_here world.port.pins key slot low) ∙ (fair.held (word_of (length world.port.pins) key slot) ∙ sym all))
below_is world key count fair lone rows (inr (lacks, e)) = e ∙ sym (all_none world.port.rows key lacks world.workers (entered_holds world fair))
