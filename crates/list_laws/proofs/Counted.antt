-- How many moves with a property there are in a stretch of their order, by the squares to which
-- they go.
use Rattle.std.proofs.Common.{◌≡◌, ◌<◌, ◌+◌, ◌*◌, ◌↔◌, ℕ, zero, suc, List, [], ◌∷◌, ◌++◌, length, Bool, true, false, arith, refl, ◌∙◌, subst}
use Rattle.std.specs.Prelude.{count_by, cond}
use Rattle.std.specs.List.{range_with_len}
use Rattle.std.proofs.lemmas.List.{length_push}
use Rattle.std.proofs.lemmas.List.Sums.{sum_by-cons}
use Rattle.bit_boards.specs.declared.square.Square.{Square}
use Rattle.bit_boards.specs.declared.piece.Kind.{Kind}
use Rattle.bit_boards.specs.Kind.{place_of}
use Rattle.board_core.specs.declared.moves.Move.{Move}
use Rattle.board_core.specs.declared.moves.Move.TheVariants as moves
use Rattle.board_core.specs.Order.{order_of, Lists, OrdersApart}
use Rattle.list_laws.proofs.MoveLists.{Before, lists_more, lists_same}

-- Before a place in the order there are so many moves with the property.
pub record AreBefore (P : Move → Type 0) (place count : ℕ) : Type 0 where
  pub moves : List Move
  pub lists : Lists (Before P place) moves
  pub long : length moves ≡ count

-- the square of a number
abbrev pub square_of : (t : ℕ) → t < 81 → Square
square_of t within = record { number = t; on_board = within }

abbrev pub one_or_none : Bool → ℕ
one_or_none b = cond b 1 0

count_first : (p : ℕ → Bool) (t : ℕ) (rest : List ℕ) → count_by p (t ∷ rest) ≡ one_or_none (p t) + count_by p rest
count_first p t rest = sum_by-cons (λ y. cond (p y) 1 0) t rest

-- one more place in the order
one_place : OrdersApart → (P : Move → Type 0) (n long : ℕ) (m : Move) → AreBefore P n long → order_of m ≡ n
    → (b : Bool) → (b ≡ true → P m) → (P m → b ≡ true) → AreBefore P (n + 1) (long + one_or_none b)
one_place apart P n long m so_far at true is back = record {
  moves = so_far.moves ++ m ∷ [];
  lists = lists_more apart P n so_far.moves m so_far.lists at (is refl);
  long = length_push so_far.moves m ∙ omega (arith, so_far.long);
}
one_place apart P n long m so_far at false is back = record {
  moves = so_far.moves;
  lists = lists_same apart P n so_far.moves m so_far.lists at (λ h. let e = back h in absurd (cc));
  long = so_far.long ∙ omega arith;
}

at_place : (P : Move → Type 0) (n k long more : ℕ) → n ≡ k → long ≡ more → AreBefore P n long → AreBefore P k more
at_place P n k long more e f a = record { moves = a.moves; lists = subst (λ (j : ℕ). Lists (Before P j) a.moves) e a.lists; long = a.long ∙ f }

board_squares : OrdersApart → (P : Move → Type 0) (from : Square) (plain promoted : ℕ → Bool)
    → ((to : Square) → (plain to.number ≡ true) ↔ P (moves.Board from to false)) → ((to : Square) → (promoted to.number ≡ true) ↔ P (moves.Board from to true))
    → (k t long : ℕ) → t + k ≡ 81 → AreBefore P (162 * from.number + 2 * t) long
    → AreBefore P (162 * from.number + 162) (long + (count_by plain (range_with_len t k) + count_by promoted (range_with_len t k)))
board_squares apart P from plain promoted is_plain is_promoted zero t long whole so_far =
    at_place P _ _ long _ (omega (arith, whole)) (omega arith) so_far
board_squares apart P from plain promoted is_plain is_promoted (suc k) t long whole so_far =
    let within : t < 81 = omega (arith, whole) in
    let to = square_of t within in
    let first = one_place apart P (162 * from.number + 2 * t) long (moves.Board from to false) so_far (omega arith) (plain t)
    (λ h. (is_plain to).0 h) (λ h. (is_plain to).1 h) in
    let second = one_place apart P (162 * from.number + 2 * t + 1) (long + one_or_none (plain t)) (moves.Board from to true) first (omega arith) (promoted t)
    (λ h. (is_promoted to).0 h) (λ h. (is_promoted to).1 h) in
    let next = board_squares apart P from plain promoted is_plain is_promoted k (t + 1) (long + one_or_none (plain t) + one_or_none (promoted t)) (omega (arith, whole))
    (at_place P _ (162 * from.number + 2 * (t + 1)) _ _ (omega arith) refl second) in
    at_place P _ _ _ _ refl
    (omega (arith, count_first plain t (range_with_len (t + 1) k), count_first promoted t (range_with_len (t + 1) k)))
    next

-- the moves from one more square
pub more_from : OrdersApart → (P : Move → Type 0) (from : Square) (plain promoted : ℕ → Bool)
    → ((to : Square) → (plain to.number ≡ true) ↔ P (moves.Board from to false)) → ((to : Square) → (promoted to.number ≡ true) ↔ P (moves.Board from to true))
    → (long : ℕ) → AreBefore P (162 * from.number) long
    → AreBefore P (162 * from.number + 162) (long + (count_by plain (range_with_len 0 81) + count_by promoted (range_with_len 0 81)))
more_from apart P from plain promoted is_plain is_promoted long so_far =
    board_squares apart P from plain promoted is_plain is_promoted 81 0 long refl (at_place P _ _ long long (omega arith) refl so_far)

drop_squares : OrdersApart → (P : Move → Type 0) (wanted : Kind) (squares : ℕ → Bool)
    → ((to : Square) → (squares to.number ≡ true) ↔ P (moves.Drop wanted to))
    → (k t long : ℕ) → t + k ≡ 81 → AreBefore P (13122 + 81 * place_of wanted + t) long
    → AreBefore P (13122 + 81 * place_of wanted + 81) (long + count_by squares (range_with_len t k))
drop_squares apart P wanted squares is_drop zero t long whole so_far =
    at_place P _ _ long _ (omega (arith, whole)) (omega arith) so_far
drop_squares apart P wanted squares is_drop (suc k) t long whole so_far =
    let within : t < 81 = omega (arith, whole) in
    let to = square_of t within in
    let first = one_place apart P (13122 + 81 * place_of wanted + t) long (moves.Drop wanted to) so_far refl (squares t)
    (λ h. (is_drop to).0 h) (λ h. (is_drop to).1 h) in
    let next = drop_squares apart P wanted squares is_drop k (t + 1) (long + one_or_none (squares t)) (omega (arith, whole))
    (at_place P _ (13122 + 81 * place_of wanted + (t + 1)) _ _ (omega arith) refl first) in
    at_place P _ _ _ _ refl (omega (arith, count_first squares t (range_with_len (t + 1) k))) next

-- the drops of one more wanted
pub more_drops : OrdersApart → (P : Move → Type 0) (wanted : Kind) (squares : ℕ → Bool)
    → ((to : Square) → (squares to.number ≡ true) ↔ P (moves.Drop wanted to))
    → (long : ℕ) → AreBefore P (13122 + 81 * place_of wanted) long
    → AreBefore P (13122 + 81 * place_of wanted + 81) (long + count_by squares (range_with_len 0 81))
more_drops apart P wanted squares is_drop long so_far =
    drop_squares apart P wanted squares is_drop 81 0 long refl (at_place P _ _ long long (omega arith) refl so_far)
