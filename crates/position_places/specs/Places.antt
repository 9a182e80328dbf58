-- Where a position stands in a list, and how it is found there by its key.
use Rattle.std.specs.Prelude.{◌≡◌, ◌⊎◌, ◌++◌, ℕ, Bool, nat_eq, List, [], ◌∷◌, Option, Some, None, IsSome, Contains, length, slice_get}
use Rattle.std.specs.Cmp.Lexicographic.{pointwise}
use Rattle.std.specs.BTreeMap.{btree_map_len}
use Rattle.std.specs.BTreeMap as tree
use Rattle.std.specs.HashMap.{hash_map_len}
use Rattle.std.specs.HashMap as table
use Rattle.board_core.specs.declared.keys.Key.{Key}
use Rattle.board_core.specs.Board.{Board}
use Rattle.board_core.specs.Kept.{IsKept}
use Rattle.board_core.specs.Key.{key_of}
use Rattle.board_core.specs.KeyOrder.{key_cmp}
use Rattle.mate_facts.specs.Entries.{AreApart}
use Rattle.position_places.specs.declared.places.Places.{Places}
use Rattle.position_places.specs.declared.by_board.BoardPlaces.{BoardPlaces}

-- A position of the list stands at the place, and has the key.
pub record StandsAt (positions : List Board) (place : ℕ) (key : Key) : Type 0 where
  pub position : Board
  pub there : slice_get positions place ≡ Some position
  pub has_key : key_of position ≡ key.0

-- What is found by keys are the places of the positions of this list, in which none stands twice:
-- each key has the place of a position that has it, the key of each position is there, there are as
-- many keys as positions, and each position keeps what positions keep.
pub record FindsPlaces (found : Key → Option ℕ) (keys : ℕ) (positions : List Board) : Type 0 where
  pub apart : AreApart positions
  pub kept : (position : Board) → Contains positions position → IsKept position
  pub right : (key : Key) (place : ℕ) → found key ≡ Some place → StandsAt positions place key
  pub all : (key : Key) (position : Board) → Contains positions position → key_of position ≡ key.0 → IsSome (found key)
  pub count : keys ≡ length positions

-- Two keys have the same words.
abbrev pub same_words : Key → Key → Bool
same_words one other = pointwise nat_eq one.0 other.0

-- The places, found by the position, are those of the positions of this list.
abbrev pub ArePlacesOf : Places → List Board → Type 0
ArePlacesOf places positions = FindsPlaces (table.get same_words places.by_key) (hash_map_len places.by_key) positions

-- The places, found by the board, are those of the positions of this list.
abbrev pub AreBoardPlacesOf : BoardPlaces → List Board → Type 0
AreBoardPlacesOf places positions = FindsPlaces (tree.get key_cmp places.by_key) (btree_map_len places.by_key) positions

-- The list with the position behind it, unless it is in the list already.
abbrev pub IsWith : List Board → Board → List Board → Type 0
IsWith positions position longer =
    (Contains positions position × (longer ≡ positions)) ⊎ ((¬ Contains positions position) × (longer ≡ positions ++ position ∷ []))

-- A place of the position in the list, or none where it isn't listed.
abbrev pub IsPlace : List Board → Board → Option ℕ → Type 0
IsPlace positions position None = ¬ Contains positions position
IsPlace positions position (Some place) = slice_get positions place ≡ Some position

-- The place of the position in the list; where it isn't listed, the place behind all others.
abbrev pub IsPlaceOrNext : List Board → Board → ℕ → Type 0
IsPlaceOrNext positions position place =
    (slice_get positions place ≡ Some position) ⊎ ((¬ Contains positions position) × (place ≡ length positions))
