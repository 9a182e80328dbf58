-- For the functions of the crate alone: what is joined so far.
use Rattle.std.specs.Prelude.{◌≡◌, ◌≤◌, ℕ, List, Contains, length}
use Rattle.board_core.specs.Board.{Board}
use Rattle.board_core.specs.Kept.{IsKept}
use Rattle.mate_facts.specs.declared.entry.MateEntry.{MateEntry}
use Rattle.mate_facts.specs.Entries.{AreApart, positions_of}
use Rattle.position_places.specs.Places.{ArePlacesOf}
use Rattle.cert_text.specs.Certificate.{IsMateEntry}
use Rattle.cook_report.specs.Joined.{IsFirstLeast}
use Rattle.cook_report.specs.declared.join.Joined.{Joined}

-- An entry of the same position, of no greater rank, is among these.
pub record HasNoGreater (entries : List MateEntry) (entry : MateEntry) : Type 0 where
  pub other : MateEntry
  pub listed : Contains entries other
  pub same : other.at ≡ entry.at
  pub no_greater : other.rank.number ≤ entry.rank.number

-- The entries are those that are seen, joined: no more than so many, each the first of the least
-- rank of its position, and one for each that is seen; and each that is seen may be listed.
pub record AreJoined (p : Board) (limit : ℕ) (seen entries : List MateEntry) : Type 0 where
  pub few : length entries ≤ limit
  pub right : (entry : MateEntry) → Contains entries entry → IsFirstLeast seen entry
  pub all : (entry : MateEntry) → Contains seen entry → HasNoGreater entries entry
  pub fits : (entry : MateEntry) → Contains seen entry → IsMateEntry p entry

-- The places are those of the entries' positions.
abbrev pub IsPlaced : Joined → Type 0
IsPlaced joined = ArePlacesOf joined.places (positions_of joined.entries.items)

-- Entries that a certificate may list, before they are put in order: none is listed twice, and
-- each keeps what a certificate's entry keeps.
pub record MayBeTold (p : Board) (entries : List MateEntry) : Type 0 where
  pub fits : (entry : MateEntry) → Contains entries entry → IsMateEntry p entry
  pub kept : (entry : MateEntry) → Contains entries entry → IsKept entry.at
  pub apart : AreApart (positions_of entries)
