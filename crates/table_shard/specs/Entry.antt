-- What the table knows of one position.
use Rattle.std.specs.Prelude.{◌≡◌, ◌<◌, ◌≤◌, ◌-◌, ◌==◌, ◌||◌, ◌⊎◌, ◌++◌, ℕ, Bool, List, [], ◌∷◌, Option, Some, None, All, length, drop, nat_lt, if◌then◌else◌}
use Rattle.std.specs.List.{list_any}
use Rattle.board_core.specs.declared.keys.Key.{Key}
use Rattle.board_core.specs.Key.{key_of}
use Rattle.pn_numbers.specs.declared.numbers.Numbers.{Numbers}
use Rattle.pn_numbers.specs.Numbers.{IsOpen}
use Rattle.path_tags.specs.Tag.{IsWithin}
use Rattle.bit_boards.specs.declared.piece.Side.{Side}
use Rattle.notes.specs.Derivation.{Derivation, attacker_of, position_of, tag_of}
use Rattle.notes.specs.Valid.{IsValid}
use Rattle.notes.specs.Lending.{MayBeLent}
use Rattle.notes.specs.declared.words.Seen.{Seen}
use Rattle.notes.specs.declared.words.Seen.TheVariants.{New, Open, Solved, Lent}
use Rattle.notes.specs.declared.words.Update.{Update}
use Rattle.notes.specs.declared.words.Update.TheVariants.{Numbers as SetNumbers, Note as AddNote, Nothing as ChangeNothing}

-- What a slot holds of a position: the position's key, its numbers, and notes about it, in order of
-- coming.
pub record EntryView : Type 0 where
  pub key : Key
  pub numbers : Numbers
  pub notes : List Derivation

-- Whether a note holds on every path.
abbrev pub is_closed : Derivation → Bool
is_closed note = length (tag_of note) == 0

-- Whether one of the notes holds on every path.
abbrev pub has_closed : List Derivation → Bool
has_closed notes = list_any is_closed notes

-- The note is about the position with the key.
abbrev pub IsAbout : Key → Derivation → Type 0
IsAbout key note = key_of (position_of note) ≡ key.0

-- The note is valid, so what it says is true, and it is about the position with the key.
abbrev pub IsFactAbout : Key → Derivation → Type 0
IsFactAbout key note = IsAbout key note × IsValid note

-- All notes of the entry are for the attacker.
abbrev pub AreFor : Side → EntryView → Type 0
AreFor attacker entry = All (λ note. attacker_of note ≡ attacker) entry.notes

-- The note depends on 1 to 32 positions.
pub record IsTagged (note : Derivation) : Type 0 where
  pub some : 0 < length (tag_of note)
  pub few : length (tag_of note) ≤ 32

-- One note stands alone, and it holds on every path.
pub record IsAlone (notes : List Derivation) : Type 0 where
  pub note : Derivation
  pub alone : notes ≡ note ∷ []
  pub closed : tag_of note ≡ []

-- At most four notes, each of which depends on 1 to 32 positions.
pub record AreTagged (notes : List Derivation) : Type 0 where
  pub few : length notes ≤ 4
  pub tagged : All IsTagged notes

-- What is kept of an entry: its numbers are both from 1 to the cap; each note is valid, and about
-- its position; and either one note that holds on every path stands alone, or there are at most
-- four others.
pub record IsEntry (entry : EntryView) : Type 0 where
  pub numbers : IsOpen entry.numbers
  pub facts : All (IsFactAbout entry.key) entry.notes
  pub notes : IsAlone entry.notes ⊎ AreTagged entry.notes

-- The first of the notes that holds on the path; none where none does.
abbrev pub IsFirstWithin : List Key → List Derivation → Option Derivation → Type 0
IsFirstWithin path [] found = found ≡ None
IsFirstWithin path (note ∷ notes) found =
    (IsWithin (tag_of note) path × (found ≡ Some note))
    ⊎ (¬ IsWithin (tag_of note) path × IsFirstWithin path notes found)

-- What an entry shows to a worker on a path, with so many workers below the position: the first
-- note that holds on the path; where none does, its numbers and that count.
abbrev pub Shows : EntryView → List Key → ℕ → Seen → Type 0
Shows entry path below New = ⊥
Shows entry path below (Open numbers count) = IsFirstWithin path entry.notes None × (numbers ≡ entry.numbers) × (count ≡ below)
Shows entry path below (Solved note) = IsFirstWithin path entry.notes (Some note)
Shows entry path below (Lent note) = ⊥

-- The entry lends the note to the position of the key, for the attacker: it has this one note,
-- which holds on every path, and what that concludes holds there too.
pub record Lends (attacker : Side) (key : Key) (entry : EntryView) (note : Derivation) : Type 0 where
  pub alone : entry.notes ≡ note ∷ []
  pub lent : MayBeLent attacker entry.key key note

-- The entry lends a note.
abbrev pub LendsSome : Side → Key → EntryView → Type 0
LendsSome attacker key entry = (note : Derivation) × Lends attacker key entry note

-- The notes after another came. One that holds on every path replaces all. Another isn't kept
-- beside one that does, or where it depends on more than 32 positions; else it goes last, and the
-- first goes where there are four.
abbrev pub noted : List Derivation → Derivation → List Derivation
noted notes note =
    if is_closed note then note ∷ []
    else (if has_closed notes || nat_lt 32 (length (tag_of note)) then notes
    else drop (length notes - 3) notes ++ note ∷ [])

-- The entry after an update.
abbrev pub updated : EntryView → Update → EntryView
updated entry (SetNumbers numbers) = record entry { numbers = numbers }
updated entry (AddNote note) = record entry { notes = noted entry.notes note }
updated entry ChangeNothing = entry

-- The update may be made to an entry of the key: its numbers are both from 1 to the cap, its note
-- is about the key's position.
abbrev pub FitsKey : Key → Update → Type 0
FitsKey key (SetNumbers numbers) = IsOpen numbers
FitsKey key (AddNote note) = IsAbout key note
FitsKey key ChangeNothing = Unit {0}
