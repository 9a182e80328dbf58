use Rattle.std.proofs.Common.{◌≡◌, ◌<◌, ◌≤◌, ◌+◌, ◌*◌, inl, inr, ℕ, Bool, true, false, ◌==◌, arith, refl, ap, sym, ◌∙◌}
use Rattle.std.specs.declared.cmp.Ordering.{Ordering}
use Rattle.std.specs.declared.cmp.Ordering.TheVariants.{Less, Equal, Greater}
use Rattle.std.specs.Ordering.{nat_cmp, bool_cmp, ordering_then, is_eq}
use Rattle.std.specs.Cmp.{nat_cmp_is, unsigned_tied}
use Rattle.std.proofs.lemmas.Bool.{cases_order}
use Rattle.bit_boards.specs.declared.piece.Kind.{Kind}
use Rattle.bit_boards.specs.declared.piece.Kind.TheVariants.{Pawn, Lance, Knight, Silver, Gold, Bishop, Rook, King}
use Rattle.bit_boards.specs.declared.square.Square.{Square}
use Rattle.board_core.specs.declared.moves.Move.{Move}
use Rattle.board_core.specs.declared.moves.Move.TheVariants as moves
use Rattle.board_core.specs.contracts.moves.MoveOrd.TheImpl as move_order
use Rattle.bit_boards.specs.contracts.piece.KindOrd.TheImpl as kind_order
use Rattle.board_core.specs.contracts.moves.MovePartialEq.TheImpl as move_same
use Rattle.board_core.specs.contracts.moves.MoveOrd.TheImpl.Laws as move_laws
use mathlib.Core.HLevel.{is_prop→PathP}
use Rattle.std.proofs.Math.Bridge.{le_prop}
use Rattle.bit_boards.specs.Kind.{place_of}
use Rattle.board_core.specs.Order.{order_of, bit_of}
use Rattle.board_core.proofs.EachKind.{of_each, same_place, place_within}

-- a number made of a higher and a lower part is compared by the higher part first
by_parts : (a b m n x y : ℕ) → (a < b → x < y) → (b < a → y < x) → (a ≡ b → m < n → x < y) → (a ≡ b → n < m → y < x)
    → (a ≡ b → m ≡ n → x ≡ y) → ordering_then (nat_cmp a b) (nat_cmp m n) ≡ nat_cmp x y
by_parts a b m n x y up down low high same = elim (cases_order a b) [
  | inl e ↦ rw (← nat_cmp_is a b Equal e) (elim (cases_order m n) [
    | inl f ↦ sym (nat_cmp_is m n Equal f) ∙ nat_cmp_is x y Equal (same e f)
    | inr o ↦ elim o [
      | inl l ↦ sym (nat_cmp_is m n Less l) ∙ nat_cmp_is x y Less (low e l)
      | inr g ↦ sym (nat_cmp_is m n Greater g) ∙ nat_cmp_is x y Greater (high e g)
    ]
  ])
  | inr o ↦ elim o [
    | inl l ↦ rw (← nat_cmp_is a b Less l) (nat_cmp_is x y Less (up l))
    | inr g ↦ rw (← nat_cmp_is a b Greater g) (nat_cmp_is x y Greater (down g))
  ]
]

bit_below : (p : Bool) → bit_of p < 2
bit_below true = omega arith
bit_below false = omega arith

bit_order : (p q : Bool) → bool_cmp p q ≡ nat_cmp (bit_of p) (bit_of q)
bit_order true true = refl
bit_order true false = refl
bit_order false true = refl
bit_order false false = refl

abbrev Placed : Kind → Kind → Type 0
Placed k l = kind_order.cmp-value.it k l ≡ nat_cmp (place_of k) (place_of l)

-- the derived order of kinds is that of their places
pub kind_order-place : (k l : Kind) → Placed k l
kind_order-place = of_each (λ k. (l : Kind) → Placed k l)
    (of_each (λ l. Placed Pawn l) refl refl refl refl refl refl refl refl)
    (of_each (λ l. Placed Lance l) refl refl refl refl refl refl refl refl)
    (of_each (λ l. Placed Knight l) refl refl refl refl refl refl refl refl)
    (of_each (λ l. Placed Silver l) refl refl refl refl refl refl refl refl)
    (of_each (λ l. Placed Gold l) refl refl refl refl refl refl refl refl)
    (of_each (λ l. Placed Bishop l) refl refl refl refl refl refl refl refl)
    (of_each (λ l. Placed Rook l) refl refl refl refl refl refl refl refl)
    (of_each (λ l. Placed King l) refl refl refl refl refl refl refl refl)

boards : (f t g u : Square) (p q : Bool)
    → ordering_then (nat_cmp f.number g.number) (ordering_then (nat_cmp t.number u.number) (bool_cmp p q))
    ≡ nat_cmp (order_of (moves.Board f t p)) (order_of (moves.Board g u q))
boards f t g u p q =
    let low = bit_below p in
    let high = bit_below q in
    let within = t.on_board in
    let inside = u.on_board in
    let inner : ordering_then (nat_cmp t.number u.number) (nat_cmp (bit_of p) (bit_of q))
    ≡ nat_cmp (2 * t.number + bit_of p) (2 * u.number + bit_of q)
    = by_parts t.number u.number (bit_of p) (bit_of q) (2 * t.number + bit_of p) (2 * u.number + bit_of q) (λ h. omega arith) (λ h. omega arith) (λ e h. omega arith) (λ e h. omega arith) (λ e h. omega arith) in
    rw (bit_order p q, inner)
    (by_parts f.number g.number (2 * t.number + bit_of p) (2 * u.number + bit_of q)
    (162 * f.number + 2 * t.number + bit_of p) (162 * g.number + 2 * u.number + bit_of q)
    (λ h. omega arith) (λ h. omega arith) (λ e h. omega arith) (λ e h. omega arith) (λ e h. omega arith))

drops : (t u : Square) (k l : Kind) → ordering_then (nat_cmp (place_of k) (place_of l)) (nat_cmp t.number u.number)
    ≡ nat_cmp (order_of (moves.Drop k t)) (order_of (moves.Drop l u))
drops t u k l =
    let within = t.on_board in
    let inside = u.on_board in
    by_parts (place_of k) (place_of l) t.number u.number (13122 + 81 * place_of k + t.number) (13122 + 81 * place_of l + u.number)
    (λ h. omega arith) (λ h. omega arith) (λ e h. omega arith) (λ e h. omega arith) (λ e h. omega arith)

-- the derived order of moves is that of their places
pub move_order-place : (m n : Move) → move_order.cmp-value.it m n ≡ nat_cmp (order_of m) (order_of n)
move_order-place (moves.Board f t p) (moves.Board g u q) = boards f t g u p q
move_order-place (moves.Board f t p) (moves.Drop l u) =
    let low = bit_below p in
    let start = f.on_board in
    let within = t.on_board in
    nat_cmp_is (162 * f.number + 2 * t.number + bit_of p) (13122 + 81 * place_of l + u.number) Less (omega arith)
move_order-place (moves.Drop k t) (moves.Board g u q) =
    let low = bit_below q in
    let start = g.on_board in
    let within = u.on_board in
    nat_cmp_is (13122 + 81 * place_of k + t.number) (162 * g.number + 2 * u.number + bit_of q) Greater (omega arith)
move_order-place (moves.Drop k t) (moves.Drop l u) =
    ap (λ (o : Ordering). ordering_then o (nat_cmp t.number u.number)) (kind_order-place k l) ∙ drops t u k l

-- two moves are the same to `==` where they have one place
pub move_same-place : (m n : Move) → move_same.eq-value.it m n ≡ (order_of m == order_of n)
move_same-place m n = move_laws.matches_eq-law m n ∙ (ap is_eq (move_order-place m n) ∙ unsigned_tied (order_of m) (order_of n))

pub square_exact : (a b : Square) → a.number ≡ b.number → a ≡ b
square_exact a b h = λ i. record { number = h i; on_board = is_prop→PathP (λ j. h j < 81) (λ j. le_prop) a.on_board b.on_board i }

bit_exact : (p q : Bool) → bit_of p ≡ bit_of q → p ≡ q
bit_exact true true h = refl
bit_exact true false h = absurd (omega arith)
bit_exact false true h = absurd (omega arith)
bit_exact false false h = refl

-- no two moves have one place
pub move_exact : (m n : Move) → order_of m ≡ order_of n → m ≡ n
move_exact (moves.Board f t p) (moves.Board g u q) h =
    let low = bit_below p in
    let high = bit_below q in
    let from : f ≡ g = square_exact f g (omega (arith, t.on_board, u.on_board)) in
    let to : t ≡ u = square_exact t u (omega (arith, t.on_board, u.on_board)) in
    let turn : p ≡ q = bit_exact p q (omega (arith, t.on_board, u.on_board)) in
    cc
move_exact (moves.Board f t p) (moves.Drop l u) h = let low = bit_below p in absurd (omega (arith, f.on_board, t.on_board))
move_exact (moves.Drop k t) (moves.Board g u q) h = let low = bit_below q in absurd (omega (arith, g.on_board, u.on_board))
move_exact (moves.Drop k t) (moves.Drop l u) h =
    let kind : k ≡ l = same_place k l (omega (arith, t.on_board, u.on_board)) in
    let to : t ≡ u = square_exact t u (omega (arith, t.on_board, u.on_board)) in
    cc

-- the order has 13,770 places
pub order_within : (m : Move) → order_of m < 13770
order_within (moves.Board f t p) = let low = bit_below p in omega (arith, f.on_board, t.on_board)
order_within (moves.Drop k t) = let low = place_within k in omega (arith, t.on_board)

-- the moves from a square lie among the 162 places of its own
pub order_from : (f t : Square) (p : Bool) → (162 * f.number ≤ order_of (moves.Board f t p)) × (order_of (moves.Board f t p) < 162 * f.number + 162)
order_from f t p = let low = bit_below p in (omega arith, omega (arith, t.on_board))
