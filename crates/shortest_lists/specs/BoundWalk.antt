-- For the functions of the crate alone: what is listed while a bound is read from facts.
use Rattle.std.specs.Prelude.{◌≡◌, ◌<◌, ◌≤◌, ◌+◌, ◌⊎◌, ℕ, List, Some, Contains, length, slice_get}
use Rattle.board_core.specs.Board.{Board}
use Rattle.board_core.specs.Kept.{IsKept}
use Rattle.mate_facts.specs.Entries.{AreApart}
use Rattle.position_places.specs.Places.{ArePlacesOf}
use Rattle.cert_text.specs.Certificate.{IsEntry}
use Rattle.bound_text.specs.Bound.{bounded_in}
use Rattle.bound_text.specs.declared.entry.BoundEntry.{BoundEntry}
use Rattle.shortest_facts.specs.Facts.{Known, HasNoCheck}
use Rattle.shortest_lists.specs.Reached.{IsReached, IsBoundStep}
use Rattle.shortest_lists.specs.declared.bound.BoundWalk.{BoundWalk}

-- What is known of a listed entry: its position may be listed, and is reached; and a mate from
-- there is known to take more moves than its number, or there is no check.
pub record IsBoundListed (k : Known) (p : Board) (entry : BoundEntry) : Type 0 where
  pub is_entry : IsEntry p entry.at
  pub kept : IsKept entry.at
  pub more : HasNoCheck k.attacker entry.at ⊎ (entry.bound.number < (k.at entry.at).least)
  pub reached : IsReached (IsBoundStep k) p entry.at

-- What is known while the entries of a bound are listed, and those before this place are dealt
-- with: the numbers only fall, and none is more than one below that of the entry at the place.
pub record IsBoundWalk (k : Known) (p : Board) (most place : ℕ) (walk : BoundWalk) : Type 0 where
  pub placed : ArePlacesOf walk.places (bounded_in walk.entries.items)
  pub few : length walk.entries.items ≤ most
  pub listed : (entry : BoundEntry) → Contains walk.entries.items entry → IsBoundListed k p entry
  pub falls : (i j : ℕ) (earlier later : BoundEntry) → i ≤ j → slice_get walk.entries.items i ≡ Some earlier → slice_get walk.entries.items j ≡ Some later
      → later.bound.number ≤ earlier.bound.number
  pub near : (i : ℕ) (here other : BoundEntry) → slice_get walk.entries.items place ≡ Some here → slice_get walk.entries.items i ≡ Some other
      → here.bound.number ≤ other.bound.number + 1

-- Entries that a bound can be made of, before they are put in order: none is listed twice, and each
-- keeps what a bound's entry keeps.
pub record AreBoundEntries (p : Board) (entries : List BoundEntry) : Type 0 where
  pub problems : (entry : BoundEntry) → Contains entries entry → IsEntry p entry.at
  pub kept : (entry : BoundEntry) → Contains entries entry → IsKept entry.at
  pub apart : AreApart (bounded_in entries)
