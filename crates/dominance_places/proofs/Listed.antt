-- Which of the positions at some places dominate a position.
use Rattle.std.proofs.Common.{◌≡◌, ◌<◌, ◌≤◌, ◌+◌, ℕ, List, length, get_or, Some, slice_get, sym, subst, ap, ◌∙◌, below_more, arith}
use Rattle.std.proofs.lemmas.Option.{get_or_from_slice_get, slice_get_within, slice_get-get_or, same_Some}
use Rattle.list_laws.proofs.Standing.{contained, at_place}
use Rattle.position_places.specs.Boards.{ArePlacesOnBoard, StandsOnBoard}
use Rattle.bit_boards.specs.declared.piece.Side.{Side}
use Rattle.board_core.specs.Board.{Board}
use Rattle.hand_dominance.specs.declared.version.Version.TheVariants.{Two}
use Rattle.hand_dominance.specs.Dominance.{Dominates}
use Rattle.hand_dominance.specs.BorneOut.{IsCovered}

-- What stands at the k-th of these places doesn't dominate the position.
abbrev pub IsBarAt : Side → List Board → Board → List ℕ → ℕ → Type 0
IsBarAt attacker positions position places k = (place : ℕ) (listed : Board) → slice_get places k ≡ Some place → slice_get positions place ≡ Some listed
    → ¬ Dominates attacker listed position

-- The same of the items that are read.
pub on_items : (positions : List Board) (position : Board) (items places : List ℕ) → items ≡ places → ArePlacesOnBoard positions position places
    → ArePlacesOnBoard positions position items
on_items positions position items places same are = subst (ArePlacesOnBoard positions position) (sym same) are

pub place_here : (positions : List Board) (position : Board) (places : List ℕ) (i : ℕ) → ArePlacesOnBoard positions position places → i < length places
    → StandsOnBoard positions position (get_or places i 0)
place_here positions position places i are low = are.right (get_or places i 0) (contained places i (get_or places i 0) (slice_get-get_or places i 0 low))

pub position_within : (positions : List Board) (position : Board) (places : List ℕ) (i : ℕ) → ArePlacesOnBoard positions position places → i < length places
    → get_or places i 0 < length positions
position_within positions position places i are low =
    let here = place_here positions position places i are low in
    slice_get_within positions (get_or places i 0) here.other here.there

-- A position that was read at a place, and its board.
pub record PositionHere (positions : List Board) (position : Board) (place : ℕ) (listed : Board) : Type 0 where
  pub there : slice_get positions place ≡ Some listed
  pub cells : listed.cells ≡ position.cells
  pub turn : listed.side ≡ position.side

pub position_here : (positions : List Board) (position : Board) (places : List ℕ) (i : ℕ) (listed : Board) → ArePlacesOnBoard positions position places
    → i < length places → listed ≡ get_or positions (get_or places i 0) listed → PositionHere positions position (get_or places i 0) listed
position_here positions position places i listed are low is =
    let here = place_here positions position places i are low in
    let same : here.other ≡ listed = sym (get_or_from_slice_get positions (get_or places i 0) here.other listed here.there) ∙ sym is in
    record {
      there = here.there ∙ ap Some same;
      cells = sym (ap (λ (b : Board). b.cells) same) ∙ here.same.0;
      turn = sym (ap (λ (b : Board). b.side) same) ∙ here.same.1;
    }

pub bar_more : (attacker : Side) (positions : List Board) (position : Board) (places : List ℕ) (n : ℕ) (listed : Board)
    → PositionHere positions position (get_or places n 0) listed → ¬ Dominates attacker listed position
    → ((k : ℕ) → k < n → IsBarAt attacker positions position places k) → (k : ℕ) → k < n + 1 → IsBarAt attacker positions position places k
bar_more attacker positions position places n listed here not so_far =
    below_more (IsBarAt attacker positions position places) n so_far
    (λ place other there stands below.
    let place_is : get_or places n 0 ≡ place = get_or_from_slice_get places n place 0 there in
    let same : Some other ≡ Some listed = sym stands ∙ subst (λ (m : ℕ). slice_get positions m ≡ Some listed) place_is here.there in
    not (subst (λ (b : Board). Dominates attacker b position) (same_Some other listed same) below))

pub is_dominated_here : (attacker : Side) (positions : List Board) (position : Board) (place : ℕ) (listed : Board) → PositionHere positions position place listed
    → Dominates attacker listed position → IsCovered Two positions attacker position
is_dominated_here attacker positions position place listed here below =
    record { listed = listed; inside = contained positions place listed here.there; covers = below }

pub all_bar : (attacker : Side) (positions : List Board) (position : Board) (places : List ℕ) (n : ℕ) → ArePlacesOnBoard positions position places
    → length places ≤ n → ((k : ℕ) → k < n → IsBarAt attacker positions position places k) → ¬ IsCovered Two positions attacker position
all_bar attacker positions position places n are all bar is =
    let there = at_place positions is.listed is.inside in
    let inside = are.all is.inside.0 (record { other = is.listed; there = there; same = (is.covers.cells, is.covers.turn) }) in
    let within = slice_get_within places inside.0 is.inside.0 (at_place places is.inside.0 inside) in
    bar inside.0 (omega (arith, within, all)) is.inside.0 is.listed (at_place places is.inside.0 inside) there is.covers
