-- The places of positions in the order of their texts, and
-- what is picked by places.
use Rattle.std.specs.Prelude.{◌≡◌, ◌<◌, ℕ, List, [], ◌∷◌, Some, Contains, length, slice_get}
use Rattle.std.specs.List.{AllZip}
use Rattle.board_core.specs.Board.{Board}
use Rattle.cert_text.specs.Certificate.{IsBefore}

-- The positions at these places rise by the bytes of their SFEN texts.
abbrev pub RiseAt : List Board → List ℕ → Type 0
RiseAt positions [] = Unit {0}
RiseAt positions (i ∷ []) = Unit {0}
RiseAt positions (i ∷ j ∷ rest) =
    ((a b : Board) → slice_get positions i ≡ Some a → slice_get positions j ≡ Some b → IsBefore a b) × RiseAt positions (j ∷ rest)

-- All places of the list, each once, in the order of the bytes of the positions' SFEN texts.
pub record IsTextOrder (positions : List Board) (order : List ℕ) : Type 0 where
  pub all : (place : ℕ) → place < length positions → Contains order place
  pub within : (place : ℕ) → Contains order place → place < length positions
  pub count : length order ≡ length positions
  pub rises : RiseAt positions order

-- The picked items are those of the list at the places of the order, one by one.
abbrev pub ArePicked : {X : Type 0} → List X → List ℕ → List X → Type 0
ArePicked xs order picked = AllZip (λ place x. slice_get xs place ≡ Some x) order picked
