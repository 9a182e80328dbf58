-- What is kept of a row when an entry is put into a slot.
use Rattle.std.proofs.Common.{◌≡◌, ◌≢◌, ◌<◌, ◌++◌, ◌⊎◌, ℕ, zero, suc, List, [], ◌∷◌, length, get_or, set, drop, inl, inr, sym, subst, ap, ◌∙◌, refl, arith}
use Rattle.std.specs.Prelude.{IsSomeAnd, slice_get, slice_index}
use Rattle.std.specs.List.{refill}
use Rattle.std.proofs.lemmas.List.{length-set, length_push, take_at}
use Rattle.std.proofs.lemmas.List.Elements.{All-push, All-set, All-tail}
use Rattle.board_core.specs.declared.keys.Key.{Key}
use Rattle.pn_numbers.specs.declared.numbers.Numbers.{Numbers}
use Rattle.notes.specs.declared.words.Kept.{Kept}
use Rattle.notes.specs.declared.words.Kept.TheVariants.{Slot, Unkept}
use Rattle.notes.specs.declared.words.Update.{Update}
use Rattle.notes.specs.declared.words.Update.TheVariants.{Numbers as SetNumbers, Note as AddNote, Nothing as ChangeNothing}
use Rattle.table_shard.specs.Entry.{EntryView, IsEntry, updated}
use Rattle.table_shard.specs.Row.{HoldsAt, Lacks, IsRow, IsIdle, IsGivenUp, Enters, IsKeptAt, fresh, left}

pub lacks_at : (row : List EntryView) (key : Key) (slot : ℕ) → Lacks row key → HoldsAt row slot key → ⊥
lacks_at [] key slot none h = h
lacks_at (x ∷ xs) key zero none h = none 0 x (omega arith) h
lacks_at (x ∷ xs) key (suc slot) none h = lacks_at xs key slot (All-tail (λ (e : EntryView). e.key ≢ key) x xs none) h

pub holds_within : (row : List EntryView) (key : Key) (slot : ℕ) → HoldsAt row slot key → slot < length row
holds_within [] key slot h = absurd h
holds_within (x ∷ xs) key zero h = omega arith
holds_within (x ∷ xs) key (suc slot) h = let r = holds_within xs key slot h in omega (arith, r)

pub holds_there : (row : List EntryView) (slot : ℕ) (d : EntryView) → slot < length row → HoldsAt row slot (get_or row slot d).key
holds_there [] slot d h = absurd (omega (arith, h))
holds_there (x ∷ xs) zero d h = refl
holds_there (x ∷ xs) (suc slot) d h = holds_there xs slot d (omega (arith, h))

pub holds_push : (row : List EntryView) (e : EntryView) (slot : ℕ) (key : Key) → HoldsAt (row ++ e ∷ []) slot key
    → HoldsAt row slot key ⊎ ((slot ≡ length row) × (e.key ≡ key))
holds_push [] e zero key h = inr (refl, h)
holds_push [] e (suc slot) key h = absurd h
holds_push (x ∷ xs) e zero key h = inl h
holds_push (x ∷ xs) e (suc slot) key h = elim (holds_push xs e slot key h) [ inl a ↦ inl a | inr b ↦ inr (ap suc b.0, b.1) ]

pub holds_set : (row : List EntryView) (i : ℕ) (e : EntryView) (slot : ℕ) (key : Key) → HoldsAt (set row i e) slot key
    → HoldsAt row slot key ⊎ ((slot ≡ i) × (e.key ≡ key))
holds_set [] i e slot key h = absurd h
holds_set (x ∷ xs) zero e zero key h = inr (refl, h)
holds_set (x ∷ xs) zero e (suc slot) key h = inl h
holds_set (x ∷ xs) (suc i) e zero key h = inl h
holds_set (x ∷ xs) (suc i) e (suc slot) key h = elim (holds_set xs i e slot key h) [ inl a ↦ inl a | inr b ↦ inr (ap suc b.0, b.1) ]

apart_from : (row after : List EntryView) (e : EntryView) (place one other : ℕ) (key : Key)
    → ((a b : ℕ) (k : Key) → HoldsAt row a k → HoldsAt row b k → a ≡ b)
    → ((slot : ℕ) → HoldsAt row slot e.key → slot ≡ place)
    → HoldsAt row one key ⊎ ((one ≡ place) × (e.key ≡ key)) → HoldsAt row other key ⊎ ((other ≡ place) × (e.key ≡ key)) → one ≡ other
apart_from row after e place one other key apart at (inl a) (inl b) = apart one other key a b
apart_from row after e place one other key apart at (inl a) (inr b) = at one (subst (HoldsAt row one) (sym b.1) a) ∙ sym b.0
apart_from row after e place one other key apart at (inr a) (inl b) = a.0 ∙ sym (at other (subst (HoldsAt row other) (sym a.1) b))
apart_from row after e place one other key apart at (inr a) (inr b) = a.0 ∙ sym b.0

pub row_pushed : (row : List EntryView) (e : EntryView) → IsRow row → length row < 8 → IsEntry e → Lacks row e.key → IsRow (row ++ e ∷ [])
row_pushed row e is room entry none = record {
  few = let n = length_push row e in omega (arith, n, room);
  entries = All-push IsEntry row e is.entries entry;
  apart = λ one other key a b. apart_from row (row ++ e ∷ []) e (length row) one other key is.apart (λ slot h. absurd (lacks_at row e.key slot none h))
      (holds_push row e one key a) (holds_push row e other key b);
}

row_set : (row : List EntryView) (i : ℕ) (e : EntryView) → IsRow row → IsEntry e → ((slot : ℕ) → HoldsAt row slot e.key → slot ≡ i) → IsRow (set row i e)
row_set row i e is entry at = record {
  few = let n = length-set row i e in let f = is.few in omega (arith, n, f);
  entries = All-set IsEntry row i e entry is.entries;
  apart = λ one other key a b. apart_from row (set row i e) e i one other key is.apart at (holds_set row i e one key a) (holds_set row i e other key b);
}

-- an entry of a key that the row lacks
pub row_put : (row : List EntryView) (i : ℕ) (e : EntryView) → IsRow row → IsEntry e → Lacks row e.key → IsRow (set row i e)
row_put row i e is entry none = row_set row i e is entry (λ slot h. absurd (lacks_at row e.key slot none h))

-- another entry of the slot's key
pub row_updated : (row : List EntryView) (i : ℕ) (e : EntryView) → IsRow row → IsEntry e → HoldsAt row i e.key → IsRow (set row i e)
row_updated row i e is entry here = row_set row i e is entry (λ slot h. is.apart slot i e.key h here)

-- a row has an entry after a key was entered, and no fewer than before
pub enters_some : (row : List EntryView) (pins : List ℕ) (key : Key) (numbers : Numbers) (kept : Kept) (after : List EntryView)
    → Enters row pins key numbers kept after → 0 < length after
enters_some row pins key numbers (Slot slot) after (inl h) =
    let w = holds_within row key slot h.0 in let e = ap length h.1 in omega (arith, w, e)
enters_some row pins key numbers (Slot slot) after (inr (none, inl t)) =
    let n = length_push row (fresh key numbers) in let e = ap length t.2 in omega (arith, n, e)
enters_some row pins key numbers (Slot slot) after (inr (none, inr t)) =
    let n = length-set row slot (fresh key numbers) in let e = ap length t.2 in let f = t.0 in omega (arith, n, e, f)
enters_some row pins key numbers Unkept after h = let e = ap length h.3 in let f = h.1 in omega (arith, e, f)

-- what a write through the slice of a row's entries leaves
pub refilled : {X : Type 0} (items now : List X) (slot : ℕ) (e : X) → now ≡ items → refill (length items) items (set now slot e) ≡ set items slot e
refilled {X} items now slot e same =
    subst (λ (l : List X). refill (length items) items (set l slot e) ≡ set items slot e) (sym same)
    (take_at (set items slot e) (drop (length (set items slot e)) items) (length items) (length-set items slot e))

pub some_within : (P : EntryView → Type 0) (row : List EntryView) (slot : ℕ) → IsSomeAnd (slice_get row slot) P → slot < length row
some_within P [] slot h = absurd h
some_within P (x ∷ xs) zero h = omega arith
some_within P (x ∷ xs) (suc slot) h = let r = some_within P xs slot h in omega (arith, r)

pub updated-key : (e : EntryView) (update : Update) → (updated e update).key ≡ e.key
updated-key e (SetNumbers numbers) = refl
updated-key e (AddNote note) = refl
updated-key e ChangeNothing = refl

pub left-set : (row : List EntryView) (slot : ℕ) (e : EntryView) (update : Update) → slot < length row → e ≡ get_or row slot e
    → left row slot update ≡ set row slot (updated e update)
left-set [] slot e update there is = refl
left-set (x ∷ xs) zero e update there is = ap (λ (h : EntryView). updated h update ∷ xs) (sym is)
left-set (x ∷ xs) (suc slot) e update there is = ap (λ (l : List EntryView). x ∷ l) (left-set xs slot e update (omega (arith, there)) is)

-- an update of a slot's entry
pub row_left : (row : List EntryView) (slot : ℕ) (e new : EntryView) (update : Update) → IsRow row → slot < length row → e ≡ get_or row slot e
    → new ≡ updated e update → IsEntry new → IsRow (set row slot new)
row_left row slot e new update is there at made entry =
    row_updated row slot new is entry
    (subst (HoldsAt row slot) (ap (λ (h : EntryView). h.key) (sym at) ∙ (sym (updated-key e update) ∙ ap (λ (h : EntryView). h.key) (sym made))) (holds_there row slot e there))

pub length-left : (row : List EntryView) (slot : ℕ) (update : Update) → length (left row slot update) ≡ length row
length-left [] slot update = refl
length-left (x ∷ xs) zero update = refl
length-left (x ∷ xs) (suc slot) update = ap suc (length-left xs slot update)

pub holds_end : (row : List EntryView) (e : EntryView) → HoldsAt (row ++ e ∷ []) (length row) e.key
holds_end [] e = refl
holds_end (x ∷ xs) e = holds_end xs e

pub holds_put : (row : List EntryView) (i : ℕ) (e : EntryView) → i < length row → HoldsAt (set row i e) i e.key
holds_put [] i e there = absurd (omega (arith, there))
holds_put (x ∷ xs) zero e there = refl
holds_put (x ∷ xs) (suc i) e there = holds_put xs i e (omega (arith, there))

pub holds_more : (row : List EntryView) (e : EntryView) (slot : ℕ) (key : Key) → HoldsAt row slot key → HoldsAt (row ++ e ∷ []) slot key
holds_more [] e slot key h = absurd h
holds_more (x ∷ xs) e zero key h = h
holds_more (x ∷ xs) e (suc slot) key h = holds_more xs e slot key h

holds_other : (row : List EntryView) (i : ℕ) (e : EntryView) (slot : ℕ) (key : Key) → slot ≢ i → HoldsAt row slot key → HoldsAt (set row i e) slot key
holds_other [] i e slot key not h = absurd h
holds_other (x ∷ xs) zero e zero key not h = absurd (not refl)
holds_other (x ∷ xs) zero e (suc slot) key not h = h
holds_other (x ∷ xs) (suc i) e zero key not h = h
holds_other (x ∷ xs) (suc i) e (suc slot) key not h = holds_other xs i e slot key (λ same. not (ap suc same)) h

-- an update leaves every entry in its slot
pub left_stays : (row : List EntryView) (i : ℕ) (update : Update) (slot : ℕ) (key : Key) → HoldsAt row slot key → HoldsAt (left row i update) slot key
left_stays [] i update slot key h = absurd h
left_stays (x ∷ xs) zero update zero key h = updated-key x update ∙ h
left_stays (x ∷ xs) zero update (suc slot) key h = h
left_stays (x ∷ xs) (suc i) update zero key h = h
left_stays (x ∷ xs) (suc i) update (suc slot) key h = left_stays xs i update slot key h

pub given_up_idle : (row : List EntryView) (pins : List ℕ) (slot : ℕ) → IsGivenUp row pins slot → IsIdle row pins slot
given_up_idle row pins slot (inl first) = first.has.idle
given_up_idle row pins slot (inr rest) = rest.1.has

-- the key's entry is where entering it answers
pub enters_held : (row : List EntryView) (pins : List ℕ) (key : Key) (numbers : Numbers) (kept : Kept) (after : List EntryView)
    → Enters row pins key numbers kept after → IsKeptAt after key kept
enters_held row pins key numbers (Slot slot) after (inl h) = subst (λ (r : List EntryView). HoldsAt r slot key) (sym h.1) h.0
enters_held row pins key numbers (Slot slot) after (inr (none, inl t)) =
    subst (λ (r : List EntryView). HoldsAt r slot key) (sym t.2) (subst (λ (n : ℕ). HoldsAt (row ++ fresh key numbers ∷ []) n key) (sym t.1) (holds_end row (fresh key numbers)))
enters_held row pins key numbers (Slot slot) after (inr (none, inr t)) =
    subst (λ (r : List EntryView). HoldsAt r slot key) (sym t.2) (holds_put row slot (fresh key numbers) (given_up_idle row pins slot t.1).there)
enters_held row pins key numbers Unkept after h = subst (λ (r : List EntryView). Lacks r key) (sym h.3) h.0

-- entering leaves an entry that workers are below in its slot
pub enters_stays : (row : List EntryView) (pins : List ℕ) (key : Key) (numbers : Numbers) (kept : Kept) (after : List EntryView) (slot : ℕ) (other : Key)
    → Enters row pins key numbers kept after → 0 < slice_index pins slot → HoldsAt row slot other → HoldsAt after slot other
enters_stays row pins key numbers (Slot s) after slot other (inl e) pinned h = subst (λ (r : List EntryView). HoldsAt r slot other) (sym e.1) h
enters_stays row pins key numbers (Slot s) after slot other (inr (none, inl t)) pinned h =
    subst (λ (r : List EntryView). HoldsAt r slot other) (sym t.2) (holds_more row (fresh key numbers) slot other h)
enters_stays row pins key numbers (Slot s) after slot other (inr (none, inr t)) pinned h =
    subst (λ (r : List EntryView). HoldsAt r slot other) (sym t.2)
    (holds_other row s (fresh key numbers) slot other
    (λ same. let zero_pin = (given_up_idle row pins s t.1).unpinned in let e = ap (slice_index pins) same in omega (arith, zero_pin, e, pinned)) h)
enters_stays row pins key numbers Unkept after slot other e pinned h = subst (λ (r : List EntryView). HoldsAt r slot other) (sym e.3) h
