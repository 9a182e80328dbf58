-- Places in lists.
use Rattle.std.proofs.Common.{◌≡◌, ◌<◌, ◌+◌, ◌++◌, inr, ℕ, List, [], ◌∷◌, get_or, length, take, Contains, arith, ap, sym, refl, ◌∙◌, length-take, get_or-take}
use Rattle.std.specs.Prelude.{Some, slice_get}
use Rattle.std.proofs.lemmas.List.{take_more}
use Rattle.std.proofs.lemmas.Option.{get_or_from_slice_get, slice_get_within, slice_get_read}
use Rattle.list_laws.proofs.Standing.{at_place}
use Rattle.board_core.specs.declared.moves.Move.{Move}
use Rattle.board_core.specs.Board.{Board}
use Rattle.board_core.specs.Order.{order_of, Lists, PlacesInOrder}
use Rattle.mate_facts.specs.Entries.{AreApart}
use Rattle.position_places.specs.Places.{IsWith}

-- in an exact list, a move that comes before another in the order stands before it
pub before_in : PlacesInOrder → (P : Move → Type 0) (moves : List Move) → Lists P moves → (a : Move) (c : Contains moves a)
    → (i : ℕ) (x : Move) → i < length moves → x ≡ get_or moves i x → order_of a < order_of x → c.0 < i
before_in places P moves l a c i x h is less =
    places 0 moves l.rises c.0 i a x (at_place moves a c) (slice_get_read moves (length moves) i x refl h is) less

-- what a place of an exact list holds has the property
pub held_at : (P : Move → Type 0) (moves : List Move) → Lists P moves → (i : ℕ) (x : Move) → i < length moves → x ≡ get_or moves i x → P x
held_at P moves l i x h is = l.sound x (i, h, sym is)

-- among positions that are apart the next one isn't one of the first
pub with_next : (positions : List Board) (i : ℕ) (p : Board) → AreApart positions → slice_get positions i ≡ Some p
    → IsWith (take i positions) p (take (i + 1) positions)
with_next positions i p apart at =
    let inside = slice_get_within positions i p at in
    inr (
      (λ there.
          let below = there.1 in
          let shorter : there.0 < i = omega (arith, length-take i positions) in
          let earlier = slice_get_read positions (length positions) there.0 p refl (omega (arith, length-take i positions))
          (sym (sym (get_or-take i positions there.0 p shorter) ∙ there.2)) in
          let same = apart there.0 i p earlier at in
          omega arith),
      take_more positions i p inside ∙ ap (λ (x : Board). take i positions ++ x ∷ []) (get_or_from_slice_get positions i p p at),
    )
