-- Laws about the entries of a mate.
use Rattle.std.specs.Prelude.{◌≡◌, ℕ, List, Some, Contains, slice_get}
use Rattle.std.proofs.Math.ListN.{get_or}
use Rattle.board_core.specs.Board.{Board}
use Rattle.mate_facts.specs.declared.entry.MateEntry.{MateEntry}
use Rattle.mate_facts.specs.Entries.{AreApart, positions_of}

-- A law: an entry's position stands at the entry's place.
abbrev pub EntriesStand : Type 0
EntriesStand = (entries : List MateEntry) (place : ℕ) (entry : MateEntry) → slice_get entries place ≡ Some entry
    → slice_get (positions_of entries) place ≡ Some entry.at

-- A law: an entry's position is listed.
abbrev pub EntriesAreListed : Type 0
EntriesAreListed = (entries : List MateEntry) (entry : MateEntry) → Contains entries entry → Contains (positions_of entries) entry.at

-- A law: where no position stands twice, entries of one position are one entry.
abbrev pub EntriesApart : Type 0
EntriesApart = (entries : List MateEntry) → AreApart (positions_of entries) → (a b : MateEntry) → Contains entries a → Contains entries b
    → a.at ≡ b.at → a ≡ b

-- A law: the entry at a place where a position stands is one of the entries, and has that position.
abbrev pub EntriesAreFound : Type 0
EntriesAreFound = (entries : List MateEntry) (place : ℕ) (position : Board) (entry : MateEntry) → slice_get (positions_of entries) place ≡ Some position
    → entry ≡ get_or entries place entry → Contains entries entry × (entry.at ≡ position)
