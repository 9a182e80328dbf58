-- What a row shows of a key, and where it enters one: there is one answer, since no two entries of
-- a row are of one key.
use Rattle.std.proofs.Common.{◌≡◌, ◌⊎◌, ◌++◌, ℕ, zero, suc, List, [], ◌∷◌, length, get_or, set, replicate, inl, inr, sym, subst, ap, ap₂, ◌∙◌, refl, arith}
use Rattle.std.specs.Prelude.{Option, Some, None, IsSomeAnd, slice_get}
use Rattle.std.proofs.lemmas.Bool.{cases_lt}
use Rattle.std.proofs.lemmas.Option.{same_Some}
use Rattle.bit_boards.specs.declared.piece.Side.{Side}
use Rattle.board_core.specs.declared.keys.Key.{Key}
use Rattle.pn_numbers.specs.declared.numbers.Numbers.{Numbers}
use Rattle.notes.specs.Derivation.{Derivation}
use Rattle.notes.specs.declared.words.Kept.{Kept}
use Rattle.notes.specs.declared.words.Kept.TheVariants.{Slot, Unkept}
use Rattle.notes.specs.declared.words.Seen.{Seen}
use Rattle.notes.specs.declared.words.Seen.TheVariants.{New, Open, Solved, Lent}
use Rattle.notes.specs.declared.words.Update.{Update}
use Rattle.table_shard.proofs.Offered.{updated-key, holds_push, holds_set, lacks_at, given_up_idle}
use Rattle.table_shard.specs.Entry.{EntryView, IsFirstWithin, Lends, Shows}
use Rattle.table_shard.specs.Row.{HoldsAt, IsLent, IsUnsolved, Lacks, LendsAt, Looks, IsFirst, IsGivenUp, fresh, Takes, Enters, left}

-- 1. NO TWO ENTRIES OF A ROW ARE OF ONE KEY.

abbrev pub AreApart : List EntryView → Type 0
AreApart row = (one other : ℕ) (key : Key) → HoldsAt row one key → HoldsAt row other key → one ≡ other

-- So of each row of a table.
abbrev pub AreApartIn : List (List EntryView) → Type 0
AreApartIn rows = (place : ℕ) → AreApart (get_or rows place [])

-- A row stays so where one slot takes an entry of a key that the row lacks.
apart_with : (row after : List EntryView) (slot : ℕ) (key : Key) → AreApart row → Lacks row key
    → ((s : ℕ) (k : Key) → HoldsAt after s k → HoldsAt row s k ⊎ ((s ≡ slot) × (key ≡ k))) → AreApart after
apart_with row after slot key apart lacks cases one other k h g = by_cases (cases one k h) (cases other k g)
  where
    by_cases : HoldsAt row one k ⊎ ((one ≡ slot) × (key ≡ k)) → HoldsAt row other k ⊎ ((other ≡ slot) × (key ≡ k)) → one ≡ other
    by_cases (inl a) (inl b) = apart one other k a b
    by_cases (inl a) (inr b) = absurd (lacks_at row key one lacks (subst (HoldsAt row one) (sym b.1) a))
    by_cases (inr a) (inl b) = absurd (lacks_at row key other lacks (subst (HoldsAt row other) (sym a.1) b))
    by_cases (inr a) (inr b) = a.0 ∙ sym b.0

takes_apart : (row : List EntryView) (pins : List ℕ) (e : EntryView) (slot : ℕ) (after : List EntryView) → AreApart row → Lacks row e.key
    → Takes row pins e slot after → AreApart after
takes_apart row pins e slot after apart lacks (inl (room, at, is)) =
    subst AreApart (sym is) (apart_with row (row ++ e ∷ []) (length row) e.key apart lacks (holds_push row e))
takes_apart row pins e slot after apart lacks (inr (full, given, is)) =
    subst AreApart (sym is) (apart_with row (set row slot e) slot e.key apart lacks (holds_set row slot e))

-- Entering a key leaves it so.
pub enters_apart : (row : List EntryView) (pins : List ℕ) (key : Key) (numbers : Numbers) (kept : Kept) (after : List EntryView) → AreApart row
    → Enters row pins key numbers kept after → AreApart after
enters_apart row pins key numbers (Slot slot) after apart (inl h) = subst AreApart (sym h.1) apart
enters_apart row pins key numbers (Slot slot) after apart (inr h) = takes_apart row pins (fresh key numbers) slot after apart h.0 h.1
enters_apart row pins key numbers Unkept after apart h = subst AreApart (sym h.3) apart

held_before : (row : List EntryView) (slot : ℕ) (update : Update) (s : ℕ) (k : Key) → HoldsAt (left row slot update) s k → HoldsAt row s k
held_before [] slot update s k h = h
held_before (x ∷ xs) zero update zero k h = sym (updated-key x update) ∙ h
held_before (x ∷ xs) zero update (suc s) k h = h
held_before (x ∷ xs) (suc slot) update zero k h = h
held_before (x ∷ xs) (suc slot) update (suc s) k h = held_before xs slot update s k h

-- And so does leaving a slot.
pub left_apart : (row : List EntryView) (slot : ℕ) (update : Update) → AreApart row → AreApart (left row slot update)
left_apart row slot update apart one other key h g = apart one other key (held_before row slot update one key h) (held_before row slot update other key g)

row_cases : (rows : List (List EntryView)) (p : ℕ) (row : List EntryView) (place : ℕ) → (get_or (set rows p row) place [] ≡ row) ⊎ (get_or (set rows p row) place [] ≡ get_or rows place [])
row_cases [] p row place = inr refl
row_cases (x ∷ xs) zero row zero = inl refl
row_cases (x ∷ xs) zero row (suc place) = inr refl
row_cases (x ∷ xs) (suc p) row zero = inr refl
row_cases (x ∷ xs) (suc p) row (suc place) = row_cases xs p row place

-- The rows stay so with another in place of one.
pub rows_apart : (rows : List (List EntryView)) (p : ℕ) (row : List EntryView) → AreApartIn rows → AreApart row → AreApartIn (set rows p row)
rows_apart rows p row all apart place = elim (row_cases rows p row place) [
  | inl e ↦ subst AreApart (sym e) apart
  | inr e ↦ subst AreApart (sym e) (all place)
]

row_at_first : (rows place : ℕ) → ◌≡◌ {A = List EntryView} (get_or (replicate rows []) place []) []
row_at_first zero place = refl
row_at_first (suc rows) zero = refl
row_at_first (suc rows) (suc place) = row_at_first rows place

-- So they are before anything is entered.
pub apart_at_first : (rows : ℕ) → AreApartIn (replicate rows [])
apart_at_first rows place = subst AreApart (sym (row_at_first rows place)) (λ one other key h g. absurd h)

-- 2. WHAT A ROW SHOWS.

-- What the entry of a slot shows.
abbrev ShowsAt : List ℕ → List Key → ℕ → Seen → EntryView → Type 0
ShowsAt pins path slot seen e = Shows e path (get_or pins slot 0) seen

entry_in : (row : List EntryView) (slot : ℕ) (P : EntryView → Type 0) → IsSomeAnd (slice_get row slot) P → (e : EntryView) × (slice_get row slot ≡ Some e) × P e
entry_in [] slot P h = absurd h
entry_in (x ∷ xs) zero P h = (x, refl, h)
entry_in (x ∷ xs) (suc slot) P h = entry_in xs slot P h

holds_key : (row : List EntryView) (slot : ℕ) (key : Key) (e : EntryView) → slice_get row slot ≡ Some e → e.key ≡ key → HoldsAt row slot key
holds_key row slot key e at is = subst (λ (o : Option EntryView). IsSomeAnd o (λ (x : EntryView). x.key ≡ key)) (sym at) is

-- Two slots that hold entries of the key are one, and so are these entries.
one_entry : (row : List EntryView) (key : Key) (s t : ℕ) (P Q : EntryView → Type 0) → AreApart row
    → IsSomeAnd (slice_get row s) (λ e. (e.key ≡ key) × P e) → IsSomeAnd (slice_get row t) (λ e. (e.key ≡ key) × Q e)
    → (s ≡ t) × ((e : EntryView) × P e × Q e)
one_entry row key s t P Q apart h g =
    let a = entry_in row s (λ (e : EntryView). (e.key ≡ key) × P e) h in
    let b = entry_in row t (λ (e : EntryView). (e.key ≡ key) × Q e) g in
    let same = apart s t key (holds_key row s key a.0 a.1 a.2.0) (holds_key row t key b.0 b.1 b.2.0) in
    let one : b.0 ≡ a.0 = same_Some b.0 a.0 (sym b.1 ∙ (ap (slice_get row) (sym same) ∙ a.1)) in
    (same, (a.0, a.2.1, subst Q one b.2.1))

first_once : (path : List Key) (notes : List Derivation) (f g : Option Derivation) → IsFirstWithin path notes f → IsFirstWithin path notes g → f ≡ g
first_once path [] f g h k = h ∙ sym k
first_once path (x ∷ xs) f g (inl h) (inl k) = h.1 ∙ sym k.1
first_once path (x ∷ xs) f g (inl h) (inr k) = absurd (k.0 h.0)
first_once path (x ∷ xs) f g (inr h) (inl k) = absurd (h.0 k.0)
first_once path (x ∷ xs) f g (inr h) (inr k) = first_once path xs f g h.1 k.1

some_none : {A B : Type 0} (a : A) → ◌≡◌ {A = Option A} None (Some a) → B
some_none a e = absurd (cc)

-- The first with a property is one.
found_once : (P : ℕ → Type 0) (s t : ℕ) → IsFirst P s → IsFirst P t → s ≡ t
found_once P s t h k = elim (cases_lt s t) [
  | inl less ↦ absurd (k.none_before s less h.has)
  | inr more ↦ elim (cases_lt t s) [ inl less ↦ absurd (h.none_before t less k.has) | inr same ↦ omega (arith, more, same) ]
]

-- What is lent is one thing.
at_one : (row : List EntryView) (attacker : Side) (key : Key) (slot other : ℕ) (note its : Derivation) → slot ≡ other
    → IsSomeAnd (slice_get row slot) (λ e. Lends attacker key e note) → IsSomeAnd (slice_get row other) (λ e. Lends attacker key e its) → note ≡ its
at_one row attacker key slot other note its same h k =
    let a = entry_in row slot (λ (e : EntryView). Lends attacker key e note) h in
    let b = entry_in row slot (λ (e : EntryView). Lends attacker key e its) (subst (λ (n : ℕ). IsSomeAnd (slice_get row n) (λ e. Lends attacker key e its)) (sym same) k) in
    let one : b.0 ≡ a.0 = same_Some b.0 a.0 (sym b.1 ∙ a.1) in
    let notes : note ∷ [] ≡ its ∷ [] = sym a.2.alone ∙ (ap (λ (e : EntryView). e.notes) (sym one) ∙ b.2.alone) in
    cc

some_lends : (row : List EntryView) (attacker : Side) (key : Key) (slot : ℕ) → IsFirst (LendsAt attacker key row) slot
    → ((other : ℕ) → ¬ LendsAt attacker key row other) → ⊥
some_lends row attacker key slot first none = none slot first.has

lent_once : (to : Option Side) (key : Key) (row : List EntryView) (f g : Option Derivation) → IsLent to key row f → IsLent to key row g → f ≡ g
lent_once None key row f g h k = h ∙ sym k
lent_once (Some attacker) key row None None h k = refl
lent_once (Some attacker) key row None (Some note) h (slot, first, lends) = absurd (some_lends row attacker key slot first h)
lent_once (Some attacker) key row (Some note) None (slot, first, lends) k = absurd (some_lends row attacker key slot first k)
lent_once (Some attacker) key row (Some note) (Some its) (slot, first, lends) (other, too, also) =
    ap (λ (n : Derivation). Some n) (at_one row attacker key slot other note its (found_once (LendsAt attacker key row) slot other first too) lends also)

-- Where no note of the key's own entry holds on the path, none is shown as such.
unsolved_not : {A : Type 0} (row : List EntryView) (pins : List ℕ) (key : Key) (path : List Key) (slot : ℕ) (note : Derivation) → AreApart row → IsUnsolved row key path
    → IsSomeAnd (slice_get row slot) (λ e. (e.key ≡ key) × ShowsAt pins path slot (Solved note) e) → A
unsolved_not row pins key path slot note apart (inl lacks) h =
    let e = entry_in row slot (λ (e : EntryView). (e.key ≡ key) × ShowsAt pins path slot (Solved note) e) h in
    absurd (lacks_at row key slot lacks (holds_key row slot key e.0 e.1 e.2.0))
unsolved_not row pins key path slot note apart (inr (t, none)) h =
    let one = one_entry row key slot t (ShowsAt pins path slot (Solved note)) (λ (e : EntryView). IsFirstWithin path e.notes None) apart h none in
    some_none note (first_once path one.1.0.notes None (Some note) one.1.2 one.1.1)

new_looks : (to : Option Side) (row : List EntryView) (pins : List ℕ) (key : Key) (path : List Key) (seen : Seen) → Lacks row key → IsLent to key row None
    → Looks to row pins key path seen → New ≡ seen
new_looks to row pins key path New lacks lent h = refl
new_looks to row pins key path (Open numbers below) lacks lent ((slot, h), none) =
    let e = entry_in row slot (λ (e : EntryView). (e.key ≡ key) × ShowsAt pins path slot (Open numbers below) e) h in
    absurd (lacks_at row key slot lacks (holds_key row slot key e.0 e.1 e.2.0))
new_looks to row pins key path (Solved note) lacks lent (slot, h) =
    let e = entry_in row slot (λ (e : EntryView). (e.key ≡ key) × ShowsAt pins path slot (Solved note) e) h in
    absurd (lacks_at row key slot lacks (holds_key row slot key e.0 e.1 e.2.0))
new_looks to row pins key path (Lent note) lacks lent (unsolved, some) = some_none note (lent_once to key row None (Some note) lent some)

-- What a row shows of a key on a path is one thing.
pub looks_once : (to : Option Side) (row : List EntryView) (pins : List ℕ) (key : Key) (path : List Key) (seen shown : Seen) → AreApart row
    → Looks to row pins key path seen → Looks to row pins key path shown → seen ≡ shown
looks_once to row pins key path New shown apart h k = new_looks to row pins key path shown h.0 h.1 k
looks_once to row pins key path (Open numbers below) New apart h k = sym (new_looks to row pins key path (Open numbers below) k.0 k.1 h)
looks_once to row pins key path (Solved note) New apart h k = sym (new_looks to row pins key path (Solved note) k.0 k.1 h)
looks_once to row pins key path (Lent note) New apart h k = sym (new_looks to row pins key path (Lent note) k.0 k.1 h)
looks_once to row pins key path (Open numbers below) (Open n b) apart ((s, h), none) ((t, k), nor) =
    let one = one_entry row key s t (ShowsAt pins path s (Open numbers below)) (ShowsAt pins path t (Open n b)) apart h k in
    ap₂ (λ (x : Numbers) (y : ℕ). Open x y) (one.1.1.1 ∙ sym one.1.2.1) (one.1.1.2 ∙ (ap (λ (z : ℕ). get_or pins z 0) one.0 ∙ sym one.1.2.2))
looks_once to row pins key path (Open numbers below) (Solved note) apart ((s, h), none) (t, k) =
    let one = one_entry row key s t (ShowsAt pins path s (Open numbers below)) (ShowsAt pins path t (Solved note)) apart h k in
    some_none note (first_once path one.1.0.notes None (Some note) one.1.1.0 one.1.2)
looks_once to row pins key path (Solved note) (Open n b) apart (s, h) ((t, k), none) =
    let one = one_entry row key s t (ShowsAt pins path s (Solved note)) (ShowsAt pins path t (Open n b)) apart h k in
    some_none note (first_once path one.1.0.notes None (Some note) one.1.2.0 one.1.1)
looks_once to row pins key path (Solved note) (Solved other) apart (s, h) (t, k) =
    let one = one_entry row key s t (ShowsAt pins path s (Solved note)) (ShowsAt pins path t (Solved other)) apart h k in
    ap Solved (same_Some note other (first_once path one.1.0.notes (Some note) (Some other) one.1.1 one.1.2))
looks_once to row pins key path (Lent note) (Open n b) apart h k = some_none note (lent_once to key row None (Some note) k.1 h.1)
looks_once to row pins key path (Open n b) (Lent note) apart h k = some_none note (lent_once to key row None (Some note) h.1 k.1)
looks_once to row pins key path (Lent note) (Solved other) apart h (t, k) = unsolved_not row pins key path t other apart h.0 k
looks_once to row pins key path (Solved other) (Lent note) apart (s, h) k = unsolved_not row pins key path s other apart k.0 h
looks_once to row pins key path (Lent note) (Lent other) apart h k = ap Lent (same_Some note other (lent_once to key row (Some note) (Some other) h.1 k.1))

-- 3. WHERE A ROW ENTERS A KEY.

given_once : (row : List EntryView) (pins : List ℕ) (s t : ℕ) → IsGivenUp row pins s → IsGivenUp row pins t → s ≡ t
given_once row pins s t (inl h) (inl k) = found_once _ s t h k
given_once row pins s t (inl h) (inr k) = absurd (k.0 s h.has)
given_once row pins s t (inr h) (inl k) = absurd (h.0 t k.has)
given_once row pins s t (inr h) (inr k) = found_once _ s t h.1 k.1

takes_once : (row : List EntryView) (pins : List ℕ) (e : EntryView) (s t : ℕ) (one two : List EntryView) → Takes row pins e s one → Takes row pins e t two
    → (s ≡ t) × (one ≡ two)
takes_once row pins e s t one two (inl h) (inl k) = (h.1 ∙ sym k.1, h.2 ∙ sym k.2)
takes_once row pins e s t one two (inl h) (inr k) = (let less = h.0 in let full = k.0 in absurd (omega (arith, less, full)))
takes_once row pins e s t one two (inr h) (inl k) = (let less = k.0 in let full = h.0 in absurd (omega (arith, less, full)))
takes_once row pins e s t one two (inr h) (inr k) =
    let same = given_once row pins s t h.1 k.1 in
    (same, h.2 ∙ (ap (λ (n : ℕ). set row n e) same ∙ sym k.2))

slot_or_none : {A : Type 0} (row : List EntryView) (pins : List ℕ) (key : Key) (numbers : Numbers) (s : ℕ) (one two : List EntryView) → Enters row pins key numbers (Slot s) one
    → Enters row pins key numbers Unkept two → A
slot_or_none row pins key numbers s one two (inl h) k = absurd (lacks_at row key s k.0 h.0)
slot_or_none row pins key numbers s one two (inr (lacks, inl h)) k = (let less = h.0 in let full = k.1 in absurd (omega (arith, less, full)))
slot_or_none row pins key numbers s one two (inr (lacks, inr h)) k =
    let idle = given_up_idle row pins s h.1 in
    let there = idle.there in
    let free = idle.unpinned in
    let full = h.0 in
    let pinned = k.2 s (omega (arith, there, full)) in
    absurd (omega (arith, free, pinned))

-- A row enters a key in one slot, and is one row behind it.
pub enters_once : (row : List EntryView) (pins : List ℕ) (key : Key) (numbers : Numbers) (kept other : Kept) (one two : List EntryView) → AreApart row
    → Enters row pins key numbers kept one → Enters row pins key numbers other two → (kept ≡ other) × (one ≡ two)
enters_once row pins key numbers (Slot s) (Slot t) one two apart (inl h) (inl k) = (ap Slot (apart s t key h.0 k.0), h.1 ∙ sym k.1)
enters_once row pins key numbers (Slot s) (Slot t) one two apart (inl h) (inr k) = absurd (lacks_at row key s k.0 h.0)
enters_once row pins key numbers (Slot s) (Slot t) one two apart (inr h) (inl k) = absurd (lacks_at row key t h.0 k.0)
enters_once row pins key numbers (Slot s) (Slot t) one two apart (inr h) (inr k) =
    let same = takes_once row pins (fresh key numbers) s t one two h.1 k.1 in (ap Slot same.0, same.1)
enters_once row pins key numbers (Slot s) Unkept one two apart h k = slot_or_none row pins key numbers s one two h k
enters_once row pins key numbers Unkept (Slot t) one two apart h k = slot_or_none row pins key numbers t two one k h
enters_once row pins key numbers Unkept Unkept one two apart h k = (refl, h.3 ∙ sym k.3)
