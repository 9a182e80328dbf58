-- What a visit has entered is held: it was held before, or was entered now.
use Rattle.std.proofs.Common.{◌≡◌, inl, inr, ℕ, ◌+◌, ◌≤◌, ◌<◌, List, [], ◌∷◌, length, set, arith, refl, sym, ap, ◌∙◌, subst, Bool, true, false}
use Rattle.std.specs.Prelude.{Option, Some, None, slice_get, ◌==◌, ◌&&◌, if◌then◌else◌}
use Rattle.std.specs.Ordering.{is_eq}
use Rattle.std.proofs.lemmas.Bool.{cases_lt, and_parts, eqb-true, eq-eqb}
use Rattle.board_laws.proofs.Keys.{same_from_test, test_itself}
use Rattle.board_core.specs.declared.keys.Key.{Key}
use Rattle.board_core.specs.KeyOrder.{key_cmp}
use Rattle.notes.specs.declared.words.Kept.{Kept}
use Rattle.notes.specs.declared.words.Kept.TheVariants.{Slot, Unkept}
use Rattle.table_shard.specs.Row.{HoldsAt}
use Rattle.table_shard.specs.Shard.{row_of}
use Rattle.table_shard.specs.Spot.{word_of}
use Rattle.table_shard.proofs.Offered.{entered_at}
use Rattle.visit_log.specs.declared.words.Request.{Request}
use Rattle.visit_log.specs.declared.words.Request.TheVariants.{Enter}
use Rattle.visit_log.specs.declared.words.Reply.{Reply}
use Rattle.visit_log.specs.declared.words.Reply.TheVariants.{Enter as Entered}
use Rattle.visit_log.specs.Visit.{Exchange}
use Rattle.visit_log.specs.Frame.{FrameView}
use Rattle.visit_log.specs.Run.{WorkerView}
use Rattle.visit_log.specs.Counts.{Words, slot_once, slot_of, own_slots, enters, leaves}
use Rattle.lone_port.specs.Lone.{LonePortView, IsLone, Turns, opened}
use Rattle.lone_port.specs.World.{World}
use Rattle.lone_port.proofs.Offered.{held_some}
use Rattle.world_play.specs.Fair.{IsFair, only, all_entered}
use Rattle.world_play.proofs.Suited.{one_within, all_within}
use Rattle.world_play.proofs.Stepped.{sum_set}
use Rattle.world_play.proofs.Entered.{IsBelowSlot, turn_keeps, opened_lone}

-- 1. ONE SLOT OF ONE KEY.

abbrev once : Bool → ℕ
once b = if b then 1 else 0

once_low : (b : Bool) → once b ≤ 1
once_low true = omega arith
once_low false = omega arith

once_some : (b : Bool) → 0 < once b → b ≡ true
once_some true some = refl
once_some false some = absurd (omega (arith, some))

named_some : (b : Bool) → 0 < once (once b == 1) → b ≡ true
named_some true some = refl
named_some false some = absurd (omega (arith, some))

-- Only this slot of this key has the word.
pub only_this : (key of : Key) (slot number : ℕ) → 0 < slot_once (only key slot) (Slot number) of 1 → (key ≡ of) × (slot ≡ number)
only_this key of slot number some =
    let parts = and_parts (is_eq (key_cmp key of)) (slot == number) (named_some (is_eq (key_cmp key of) && (slot == number)) some) in
    (same_from_test key of parts.0, eqb-true slot number parts.1)

-- And it has it.
pub this_only : (key : Key) (slot : ℕ) → slot_once (only key slot) (Slot slot) key 1 ≡ 1
this_only key slot =
    let key_is = test_itself key in
    let slot_is : (slot == slot) ≡ true = eq-eqb slot slot refl in
    rw (key_is, slot_is) refl

-- A slot that is entered for the key is one of its word.
once_within : (words : Words) (key of : Key) (slot : ℕ) (kept : Option Kept) → slot_of (only key slot) kept of 1 ≤ slot_of words kept of (words key slot)
once_within words key of slot None = omega arith
once_within words key of slot (Some Unkept) = omega arith
once_within words key of slot (Some (Slot number)) = elim (cases_lt 0 (slot_once (only key slot) (Slot number) of 1)) [
  | inl some ↦
      let is = only_this key of slot number some in
      let low = once_low (only key slot of number == 1) in
      let same : words of number ≡ words key slot = ap (λ (k : Key). words k number) (sym is.0) ∙ ap (words key) (sym is.1) in
      let yes = ap once (eq-eqb (words of number) (words key slot) same) in
      omega (arith, low, yes)
  | inr none ↦ omega (arith, none)
]

own_within : (words : Words) (key : Key) (slot : ℕ) (fs : List FrameView) → own_slots (only key slot) fs 1 ≤ own_slots words fs (words key slot)
own_within words key slot [] = omega arith
own_within words key slot (f ∷ fs) =
    let one = once_within words key f.place.key slot f.kept in
    let rest = own_within words key slot fs in
    omega (arith, one, rest)

-- 2. ALL WORKERS.

-- A slot that a visit has entered for the key holds the key's entry, and a visit is below it.
pub below_slot : (world : World) → IsFair world → (key : Key) (slot : ℕ) → 0 < all_entered world.workers key slot → IsBelowSlot world.port key slot
below_slot world fair key slot some =
    let words = word_of (length world.port.pins) in
    let within = all_within (λ (w : WorkerView). own_slots (only key slot) w.state.frames 1) (λ (w : WorkerView). own_slots words w.state.frames (words key slot)) world.workers
    (λ i w e. own_within words key slot w.state.frames) in
    let held = fair.held (words key slot) in
    (fair.entered key slot some, (held_some world.port.pins key slot (omega (arith, some, within, held))).some)

-- 3. A STEP.

-- What an event enters for the key, its slot holds behind it.
now_held : (port : LonePortView) (path : List Key) (q : Request) (a : Option Reply) (after : LonePortView) (key : Key) (slot : ℕ) → IsLone port
    → Turns port path q a after → 0 < enters (only key slot) (q, a) 1 → HoldsAt (row_of after.rows key) slot key
now_held port path (Enter of numbers) (Some (Entered Unkept)) after key slot lone turns some = absurd (omega (arith, some))
now_held port path (Enter of numbers) (Some (Entered (Slot number))) after key slot lone turns some =
    let is = only_this key of slot number some in
    let there = entered_at port.rows _ of numbers (Slot number) after.rows lone.some turns.0 in
    subst (λ (k : Key). HoldsAt (row_of after.rows k) slot k) (sym is.0) (subst (λ (n : ℕ). HoldsAt (row_of after.rows of) n of) (sym is.1) there)
now_held port path q a after key slot lone turns some = absurd (omega (arith, some))

-- Where a worker's slots move by what its event enters and leaves, what all have entered then is
-- held.
pub entered_on : (world : World) (place : ℕ) (worker later : WorkerView) (stops : Bool) (path : List Key) (x : Exchange) (after : LonePortView) → IsFair world → IsLone world.port
    → slice_get world.workers place ≡ Some worker → Turns (opened world.port stops) path x.0 x.1 after
    → ((words : Words) (word : ℕ) → own_slots words later.state.frames word + leaves words x word ≡ own_slots words worker.state.frames word + enters words x word)
    → (key : Key) (slot : ℕ) → 0 < all_entered (set world.workers place later) key slot → HoldsAt (row_of after.rows key) slot key
entered_on world place worker later stops path x after fair lone there turns moves key slot some =
    elim (cases_lt 0 (all_entered world.workers key slot)) as (λ _. HoldsAt (row_of after.rows key) slot key) [
      | inl before ↦ turn_keeps (opened world.port stops) path x.0 x.1 after key slot (opened_lone world.port stops lone) (below_slot world fair key slot before) turns
      | inr none ↦ (
          let own = λ (w : WorkerView). own_slots (only key slot) w.state.frames 1 in
          let sums = sum_set own world.workers place worker later there in
          let one = one_within own world.workers place worker there in
          let move = moves (only key slot) 1 in
          now_held (opened world.port stops) path x.0 x.1 after key slot (opened_lone world.port stops lone) turns (omega (arith, some, none, sums, one, move)))
    ]
