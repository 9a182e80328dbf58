-- A row of eight slots: the entries in the order of their slots, from slot 0; the slots behind them
-- are free.
use Rattle.std.specs.Prelude.{◌≡◌, ◌≢◌, ◌<◌, ◌≤◌, ◌⊎◌, ◌++◌, ◌+◌, ℕ, zero, suc, List, [], ◌∷◌, Option, Some, None, All, IsSomeAnd, length, slice_get, slice_set, slice_index, Bool, false, if◌then◌else◌}
use Rattle.bit_boards.specs.declared.piece.Side.{Side}
use Rattle.board_core.specs.declared.keys.Key.{Key}
use Rattle.pn_numbers.specs.declared.numbers.Numbers.{Numbers}
use Rattle.notes.specs.declared.words.Seen.{Seen}
use Rattle.notes.specs.declared.words.Seen.TheVariants.{New, Open, Solved, Lent}
use Rattle.notes.specs.declared.words.Kept.{Kept}
use Rattle.notes.specs.declared.words.Kept.TheVariants.{Slot, Unkept}
use Rattle.notes.specs.declared.words.Update.{Update}
use Rattle.notes.specs.Derivation.{Derivation}
use Rattle.table_shard.specs.Entry.{EntryView, IsEntry, IsFirstWithin, Lends, LendsSome, Shows, has_closed, updated}

-- The slot holds an entry of the key.
abbrev pub HoldsAt : List EntryView → ℕ → Key → Type 0
HoldsAt row slot key = IsSomeAnd (slice_get row slot) (λ entry. entry.key ≡ key)

-- No slot holds an entry of the key.
abbrev pub Lacks : List EntryView → Key → Type 0
Lacks row key = All (λ entry. entry.key ≢ key) row

-- What is kept of a row: it has at most eight entries, each as entries are, and no two of one key.
pub record IsRow (row : List EntryView) : Type 0 where
  pub few : length row ≤ 8
  pub entries : All IsEntry row
  pub apart : (one other : ℕ) (key : Key) → HoldsAt row one key → HoldsAt row other key → one ≡ other

-- The number is the first with the property.
pub record IsFirst (P : ℕ → Type 0) (n : ℕ) : Type 0 where
  pub has : P n
  pub none_before : (m : ℕ) → m < n → ¬ P m

-- The entry in the slot lends a note to the position of the key, for the attacker.
abbrev pub LendsAt : Side → Key → List EntryView → ℕ → Type 0
LendsAt attacker key row slot = IsSomeAnd (slice_get row slot) (LendsSome attacker key)

-- What a row lends to the position of a key, for the attacker: the note of the first entry that
-- lends one; none where none does.
abbrev pub IsFirstLent : Side → Key → List EntryView → Option Derivation → Type 0
IsFirstLent attacker key row None = (slot : ℕ) → ¬ LendsAt attacker key row slot
IsFirstLent attacker key row (Some note) =
    (slot : ℕ) × IsFirst (LendsAt attacker key row) slot × IsSomeAnd (slice_get row slot) (λ entry. Lends attacker key entry note)

-- The same, where it lends to an attacker at all; else it lends nothing.
abbrev pub IsLent : Option Side → Key → List EntryView → Option Derivation → Type 0
IsLent None key row found = found ≡ None
IsLent (Some attacker) key row found = IsFirstLent attacker key row found

-- To whom a table lends: to this attacker, where it lends at all.
abbrev pub lent_to : Bool → Side → Option Side
lent_to lends attacker = if lends then Some attacker else None

-- No note of the key's own entry holds on the path, or the row has no such entry.
abbrev pub IsUnsolved : List EntryView → Key → List Key → Type 0
IsUnsolved row key path =
    Lacks row key ⊎ ((slot : ℕ) × IsSomeAnd (slice_get row slot) (λ entry. (entry.key ≡ key) × IsFirstWithin path entry.notes None))

-- What a look for the key shows, the first that there is: the note of its own entry that holds on
-- the path; what the row lends (another entry's note, since the own one, where it held on every
-- path, would have come first); what its own entry shows, with the count of workers of its slot;
-- New where no entry is the key's.
abbrev pub Looks : Option Side → List EntryView → List ℕ → Key → List Key → Seen → Type 0
Looks to row pins key path New = Lacks row key × IsLent to key row None
Looks to row pins key path (Open numbers below) =
    ((slot : ℕ) × IsSomeAnd (slice_get row slot) (λ entry. (entry.key ≡ key) × Shows entry path (slice_index pins slot) (Open numbers below)))
    × IsLent to key row None
Looks to row pins key path (Solved note) =
    (slot : ℕ) × IsSomeAnd (slice_get row slot) (λ entry. (entry.key ≡ key) × Shows entry path (slice_index pins slot) (Solved note))
Looks to row pins key path (Lent note) = IsUnsolved row key path × IsLent to key row (Some note)

-- The slot holds an entry, and no worker is below it.
pub record IsIdle (row : List EntryView) (pins : List ℕ) (slot : ℕ) : Type 0 where
  pub there : slot < length row
  pub unpinned : slice_index pins slot ≡ 0

-- No worker is below the slot's entry, and none of its notes holds on every path.
pub record IsIdleUnsolved (row : List EntryView) (pins : List ℕ) (slot : ℕ) : Type 0 where
  pub idle : IsIdle row pins slot
  pub unsolved : IsSomeAnd (slice_get row slot) (λ entry. has_closed entry.notes ≡ false)

-- The slot whose entry is given up for another: of the entries that no worker is below the first
-- without a note that holds on every path; where each of them has such a note, the first of them.
abbrev pub IsGivenUp : List EntryView → List ℕ → ℕ → Type 0
IsGivenUp row pins slot =
    IsFirst (IsIdleUnsolved row pins) slot
    ⊎ (((other : ℕ) → ¬ IsIdleUnsolved row pins other) × IsFirst (IsIdle row pins) slot)

-- The entry of a position that has none yet: its key, the numbers that were handed in, and no note.
abbrev pub fresh : Key → Numbers → EntryView
fresh key numbers = record { key = key; numbers = numbers; notes = [] }

-- The slot that a new entry takes, and the row after it: the first free slot; in a full row the one
-- that is given up.
abbrev pub Takes : List EntryView → List ℕ → EntryView → ℕ → List EntryView → Type 0
Takes row pins entry slot after =
    ((length row < 8) × (slot ≡ length row) × (after ≡ row ++ entry ∷ []))
    ⊎ ((length row ≡ 8) × IsGivenUp row pins slot × (after ≡ slice_set row slot entry))

-- What entering the key with these numbers answers, and the row after it. The key's own slot: the
-- row stays as it is. Else the slot that a new entry takes. Unkept exactly where eight other
-- entries are there with workers below each: the row stays as it is.
abbrev pub Enters : List EntryView → List ℕ → Key → Numbers → Kept → List EntryView → Type 0
Enters row pins key numbers (Slot slot) after =
    (HoldsAt row slot key × (after ≡ row)) ⊎ (Lacks row key × Takes row pins (fresh key numbers) slot after)
Enters row pins key numbers Unkept after =
    Lacks row key × (length row ≡ 8) × ((slot : ℕ) → slot < 8 → 0 < slice_index pins slot) × (after ≡ row)

-- From this slot on, slot after slot, these counts were told.
abbrev pub TellsCounts : {P : Type 0} → (P → ℕ → ℕ → P → Type 0) → ℕ → P → List ℕ → P → Type 0
TellsCounts told slot before [] after = before ≡ after
TellsCounts {P} told slot before (count ∷ counts) after = (between : P) × told before slot count between × TellsCounts told (slot + 1) between counts after

-- Looking asks how many workers are below the key's slot where it shows numbers, and else asks
-- nothing.
abbrev pub AsksToLook : {P : Type 0} → (P → ℕ → ℕ → P → Type 0) → List EntryView → Key → P → Seen → P → Type 0
AsksToLook told row key before (Open numbers below) after = (slot : ℕ) × HoldsAt row slot key × told before slot below after
AsksToLook told row key before seen after = before ≡ after

-- What a look for the key shows by counts that are asked for one by one.
pub record LooksBy {P : Type 0} (told : P → ℕ → ℕ → P → Type 0) (to : Option Side) (row : List EntryView) (key : Key) (path : List Key) (before : P) (seen : Seen) (after : P) : Type 0 where
  pub counts : List ℕ
  pub looks : Looks to row counts key path seen
  pub asks : AsksToLook told row key before seen after

-- There is no need to give up an entry of the row for the key: it has one, or a slot is free.
abbrev pub HasPlace : List EntryView → Key → Type 0
HasPlace row key = ((slot : ℕ) × HoldsAt row slot key) ⊎ (length row < 8)

-- Entering asks how many workers are below each of the eight slots where an entry has to be given
-- up, and else asks nothing.
abbrev pub AsksToEnter : {P : Type 0} → (P → ℕ → ℕ → P → Type 0) → List EntryView → Key → P → List ℕ → P → Type 0
AsksToEnter told row key before counts after =
    (HasPlace row key × (before ≡ after))
    ⊎ (Lacks row key × (length row ≡ 8) × (length counts ≡ 8) × TellsCounts told 0 before counts after)

-- What entering the key answers by counts that are asked for one by one, and the row after it.
pub record EntersBy {P : Type 0} (told : P → ℕ → ℕ → P → Type 0) (row : List EntryView) (key : Key) (numbers : Numbers) (before : P) (kept : Kept) (later : List EntryView) (after : P) : Type 0 where
  pub counts : List ℕ
  pub enters : Enters row counts key numbers kept later
  pub asks : AsksToEnter told row key before counts after

-- The row after an update of the entry in a slot.
abbrev pub left : List EntryView → ℕ → Update → List EntryView
left [] slot update = []
left (entry ∷ entries) zero update = updated entry update ∷ entries
left (entry ∷ entries) (suc slot) update = entry ∷ left entries slot update

-- What entering answers is where the key's entry is.
abbrev pub IsKeptAt : List EntryView → Key → Kept → Type 0
IsKeptAt row key (Slot slot) = HoldsAt row slot key
IsKeptAt row key Unkept = Lacks row key
