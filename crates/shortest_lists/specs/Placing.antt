-- For the functions of the crate alone: how a position is put behind others, unless it is one of
-- them.
use Rattle.std.specs.Prelude.{◌≡◌, ◌<◌, ◌≤◌, ◌++◌, ◌∷◌, [], ℕ, List, Some, Bool, true, false, Contains, length, slice_get}
use Rattle.board_core.specs.Board.{Board}
use Rattle.position_places.specs.declared.places.Places.{Places}
use Rattle.position_places.specs.Places.{ArePlacesOf}
use Rattle.shortest_lists.specs.declared.ends.ListEnd.{ListEnd}
use Rattle.shortest_lists.specs.declared.ends.ListEnd.TheVariants.{TooMany, NoMemory}

-- The position is new, there was room for it, and it stands behind the others now; or it is one of
-- them, and they stand where they stood.
abbrev pub IsPlaced : Places → List Board → Board → ℕ → Bool → Type 0
IsPlaced places positions q most true = (¬ Contains positions q) × (length positions < most) × ArePlacesOf places (positions ++ q ∷ [])
IsPlaced places positions q most false = Contains positions q × ArePlacesOf places positions

-- Why the position is not put behind the others: it is new, and there is no room; or memory was
-- wanted.
abbrev pub HasNoPlace : List Board → Board → ℕ → ListEnd → Type 0
HasNoPlace positions q most TooMany = (¬ Contains positions q) × (most ≤ length positions)
HasNoPlace positions q most NoMemory = Unit {0}

-- Each item stands where it stood.
abbrev pub StandOn : {X : Type 0} → List X → List X → Type 0
StandOn {X} xs ys = (place : ℕ) (x : X) → slice_get xs place ≡ Some x → slice_get ys place ≡ Some x
