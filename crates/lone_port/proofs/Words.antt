-- What the words count, once a slot was entered or left.
use Rattle.std.proofs.Common.{◌≡◌, ◌≢◌, ◌<◌, ◌≤◌, ◌+◌, ◌-◌, ◌*◌, ◌/◌, ◌%◌, ◌⊎◌, ℕ, Bool, List, [], length, get_or, set, inl, inr, sym, ap, ap₂, ◌∙◌, refl, arith, eq-eqb, ne_eqb}
use Rattle.std.specs.Prelude.{if◌then◌else◌, ◌==◌}
use Rattle.std.proofs.lemmas.Bool.{cases_eq, cases_lt, lt-ltb, le-ltb}
use Rattle.std.proofs.lemmas.List.{get_or-set_same, get_or-set_other, get_or_past}
use Rattle.board_core.specs.declared.keys.Key.{Key}
use Rattle.notes.specs.declared.words.Kept.TheVariants.{Slot}
use Rattle.table_shard.specs.Spot.{place_of, word_of}
use Rattle.visit_log.specs.Counts.{slot_once}
use Rattle.lone_port.specs.Lone.{held_by, pins_of, with_pins, pinned, unpinned}

-- The word of one of the eight slots.
pub word_here : (rows : ℕ) (key : Key) (slot : ℕ) → slot < 8 → word_of rows key slot ≡ 8 * place_of key rows + slot
word_here rows key slot low = ap (λ (b : Bool). if b then 8 * place_of key rows + slot else 8 * rows) (lt-ltb slot 8 low)

-- What is none of the eight has a word behind all rows.
pub word_past : (rows : ℕ) (key : Key) (slot : ℕ) → 8 ≤ slot → word_of rows key slot ≡ 8 * rows
word_past rows key slot high = ap (λ (b : Bool). if b then 8 * place_of key rows + slot else 8 * rows) (le-ltb slot 8 high)

abbrev chosen : Bool → ℕ → ℕ → ℕ
chosen b one other = if b then one else other

-- The count at a slot's word is that of the slot.
pub held_here : (pins : List (List ℕ)) (key : Key) (slot : ℕ) → slot < 8
    → held_by pins (word_of (length pins) key slot) ≡ get_or (pins_of pins key) slot 0
held_here pins key slot low =
    let word = word_here (length pins) key slot low in
    let at : word_of (length pins) key slot / 8 ≡ place_of key (length pins) = omega (arith, word, low) in
    let of : word_of (length pins) key slot % 8 ≡ slot = omega (arith, word, low) in
    ap₂ (λ (a b : ℕ). get_or (get_or pins a []) b 0) at of

-- What is no slot of the eight counts nothing.
held_past : (pins : List (List ℕ)) (key : Key) (slot : ℕ) → 8 ≤ slot → held_by pins (word_of (length pins) key slot) ≡ 0
held_past pins key slot high =
    let word = word_past (length pins) key slot high in
    let past : length pins ≤ word_of (length pins) key slot / 8 = omega (arith, word) in
    ap (λ (counts : List ℕ). get_or counts (word_of (length pins) key slot % 8) 0) (get_or_past pins (word_of (length pins) key slot / 8) [] past)
    ∙ get_or_past [] (word_of (length pins) key slot % 8) 0 (omega arith)

-- A count of a slot is set: the slot's word has it, and all others have what they had.
held_set : (pins : List (List ℕ)) (key : Key) (slot count : ℕ) → place_of key (length pins) < length pins → slot < 8
    → slot < length (pins_of pins key) → (word : ℕ)
    → held_by (with_pins pins key (set (pins_of pins key) slot count)) word ≡ chosen (word_of (length pins) key slot == word) count (held_by pins word)
held_set pins key slot count there low within word = elim (cases_eq (word_of (length pins) key slot) word) [
  | inl same ↦
      let is = word_here (length pins) key slot low in
      let at : word / 8 ≡ place_of key (length pins) = omega (arith, is, same, low) in
      let of : word % 8 ≡ slot = omega (arith, is, same, low) in
      ap₂ (λ (a b : ℕ). get_or (get_or (set pins (place_of key (length pins)) (set (pins_of pins key) slot count)) a []) b 0) at of
      ∙ (ap (λ (counts : List ℕ). get_or counts slot 0) (get_or-set_same pins (place_of key (length pins)) (set (pins_of pins key) slot count) [] there)
      ∙ (get_or-set_same (pins_of pins key) slot count 0 within
      ∙ sym (ap (λ (b : Bool). chosen b count (held_by pins word)) (eq-eqb _ _ same))))
  | inr not ↦ elsewhere not (cases_eq (word / 8) (place_of key (length pins))) ∙ sym (ap (λ (b : Bool). chosen b count (held_by pins word)) (ne_eqb _ _ not))
]
  where
    elsewhere : word_of (length pins) key slot ≢ word → (word / 8 ≡ place_of key (length pins)) ⊎ (word / 8 ≢ place_of key (length pins))
        → held_by (with_pins pins key (set (pins_of pins key) slot count)) word ≡ held_by pins word
    elsewhere not (inl at) =
        let is = word_here (length pins) key slot low in
        let apart : word % 8 ≢ slot = λ of. not (omega (arith, is, at, of)) in
        ap (λ (a : ℕ). get_or (get_or (set pins (place_of key (length pins)) (set (pins_of pins key) slot count)) a []) (word % 8) 0) at
        ∙ (ap (λ (counts : List ℕ). get_or counts (word % 8) 0) (get_or-set_same pins (place_of key (length pins)) (set (pins_of pins key) slot count) [] there)
        ∙ (get_or-set_other (pins_of pins key) slot (word % 8) count 0 apart
        ∙ sym (ap (λ (a : ℕ). get_or (get_or pins a []) (word % 8) 0) at)))
    elsewhere not (inr away) =
        ap (λ (counts : List ℕ). get_or counts (word % 8) 0)
        (get_or-set_other pins (place_of key (length pins)) (word / 8) (set (pins_of pins key) slot count) [] away)

-- A slot that is entered counts one more at its word, and nothing else changes.
pub held_entered : (pins : List (List ℕ)) (key : Key) (slot : ℕ) → place_of key (length pins) < length pins → slot < 8
    → slot < length (pins_of pins key) → (word : ℕ)
    → held_by (pinned pins key (Slot slot)) word ≡ held_by pins word + slot_once (word_of (length pins)) (Slot slot) key word
held_entered pins key slot there low within word =
    held_set pins key slot (get_or (pins_of pins key) slot 0 + 1) there low within word
    ∙ elim (cases_eq (word_of (length pins) key slot) word) [
      | inl same ↦
          let is = held_here pins key slot low in
          let old : held_by pins word ≡ get_or (pins_of pins key) slot 0 = ap (held_by pins) (sym same) ∙ is in
          let yes = eq-eqb _ _ same in
          ap (λ (b : Bool). chosen b (get_or (pins_of pins key) slot 0 + 1) (held_by pins word)) yes
          ∙ (ap (λ (n : ℕ). n + 1) (sym old) ∙ ap (λ (b : Bool). held_by pins word + chosen b 1 0) (sym yes))
      | inr not ↦
          let no = ne_eqb _ _ not in
          ap (λ (b : Bool). chosen b (get_or (pins_of pins key) slot 0 + 1) (held_by pins word)) no
          ∙ (omega arith ∙ ap (λ (b : Bool). held_by pins word + chosen b 1 0) (sym no))
    ]

-- A slot that is left counts one less.
pub held_left : (pins : List (List ℕ)) (key : Key) (slot : ℕ) → place_of key (length pins) < length pins → slot < 8
    → slot < length (pins_of pins key) → 0 < get_or (pins_of pins key) slot 0 → (word : ℕ)
    → held_by (unpinned pins key (Slot slot)) word + slot_once (word_of (length pins)) (Slot slot) key word ≡ held_by pins word
held_left pins key slot there low within some word =
    ap (λ (n : ℕ). n + slot_once (word_of (length pins)) (Slot slot) key word) (held_set pins key slot (get_or (pins_of pins key) slot 0 - 1) there low within word)
    ∙ elim (cases_eq (word_of (length pins) key slot) word) [
      | inl same ↦
          let is = held_here pins key slot low in
          let old : held_by pins word ≡ get_or (pins_of pins key) slot 0 = ap (held_by pins) (sym same) ∙ is in
          ap (λ (b : Bool). chosen b (get_or (pins_of pins key) slot 0 - 1) (held_by pins word) + chosen b 1 0) (eq-eqb _ _ same)
          ∙ omega (arith, some, old)
      | inr not ↦ ap (λ (b : Bool). chosen b (get_or (pins_of pins key) slot 0 - 1) (held_by pins word) + chosen b 1 0) (ne_eqb _ _ not) ∙ omega arith
    ]

-- Where a slot's own word counts something, it is one of the eight, and counts something.
pub record IsOwn (pins : List (List ℕ)) (key : Key) (slot : ℕ) : Type 0 where
  pub low : slot < 8
  pub some : 0 < get_or (pins_of pins key) slot 0

pub held_some : (pins : List (List ℕ)) (key : Key) (slot : ℕ) → 0 < held_by pins (word_of (length pins) key slot) → IsOwn pins key slot
held_some pins key slot some = elim (cases_lt slot 8) [
  | inl low ↦
      let is = held_here pins key slot low in
      record { low = low; some = omega (arith, some, is) }
  | inr high ↦ let none = held_past pins key slot high in absurd (omega (arith, some, none))
]

-- So it does where a slot of that word may be left.
pub own : (pins : List (List ℕ)) (key : Key) (slot : ℕ)
    → ((word : ℕ) → slot_once (word_of (length pins)) (Slot slot) key word ≤ held_by pins word) → IsOwn pins key slot
own pins key slot held =
    let more = held (word_of (length pins) key slot) in
    let yes = ap (λ (b : Bool). chosen b 1 0) (eq-eqb (word_of (length pins) key slot) (word_of (length pins) key slot) refl) in
    held_some pins key slot (omega (arith, more, yes))
