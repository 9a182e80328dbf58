-- Where moves stand in a list in their order.
use Rattle.std.proofs.Common.{◌≡◌, ◌<◌, ◌≤◌, ◌+◌, ℕ, zero, suc, List, [], ◌∷◌, arith, ap, sym, ◌∙◌}
use Rattle.std.specs.Prelude.{Some, slice_get}
use Rattle.std.proofs.lemmas.Option.{same_Some}
use Rattle.board_core.specs.declared.moves.Move.{Move}
use Rattle.board_core.specs.Order.{order_of, RisesFrom}

-- a move of a list that rises from a place in the order comes no sooner than that place
pub rises_at : (low : ℕ) (moves : List Move) → RisesFrom low moves → (i : ℕ) (a : Move) → slice_get moves i ≡ Some a → low ≤ order_of a
rises_at low [] r i a e = absurd (cc)
rises_at low (m ∷ ms) r zero a e =
    let o = ap order_of (same_Some m a e) in
    let l : low ≤ order_of m = r.0 in
    omega arith
rises_at low (m ∷ ms) r (suc i) a e =
    let l : low ≤ order_of m = r.0 in
    let w : order_of m + 1 ≤ order_of a = rises_at (order_of m + 1) ms r.1 i a e in
    omega arith

-- in a list in order, a move that comes before another in the order stands before it
pub before_in : (low : ℕ) (moves : List Move) → RisesFrom low moves → (i j : ℕ) (a b : Move) → slice_get moves i ≡ Some a
    → slice_get moves j ≡ Some b → order_of a < order_of b → i < j
before_in low [] r i j a b ea eb less = absurd (cc)
before_in low (m ∷ ms) r zero zero a b ea eb less =
    let o = ap order_of (same_Some a b (sym ea ∙ eb)) in
    absurd (omega arith)
before_in low (m ∷ ms) r zero (suc j) a b ea eb less = omega arith
before_in low (m ∷ ms) r (suc i) zero a b ea eb less =
    let o = ap order_of (same_Some m b eb) in
    let w : order_of m + 1 ≤ order_of a = rises_at (order_of m + 1) ms r.1 i a ea in
    absurd (omega arith)
before_in low (m ∷ ms) r (suc i) (suc j) a b ea eb less =
    let w : i < j = before_in (order_of m + 1) ms r.1 i j a b ea eb less in
    omega arith
