-- A list up to a place in the order of moves, to which the moves from a square or the drops of a
-- kind are added, reaches past them.
use Rattle.std.proofs.Common.{◌≡◌, ◌<◌, ◌≤◌, ◌+◌, ◌*◌, ◌↔◌, ◌&&◌, ◌==◌, not, inl, inr, ap, ◌∙◌, eq-eqb, ne_eqb, ℕ, zero, suc, List, [], ◌∷◌, true, false, Bool, arith, refl, sym, subst, slice_index_or}
use Rattle.std.proofs.lemmas.Bool.{cases_lt, and_parts, and_from}
use Rattle.bit_boards.specs.declared.square.Square.{Square}
use Rattle.bit_boards.specs.declared.piece.Kind.{Kind}
use Rattle.bit_boards.specs.declared.piece.Kind.TheVariants.{Pawn, Lance, Knight, Silver, Gold, Bishop, Rook, King}
use Rattle.bit_boards.specs.declared.mask.Mask.{Mask}
use Rattle.bit_boards.specs.Mask.{Holds}
use Rattle.bit_boards.specs.Kind.{place_of}
use Rattle.board_core.specs.declared.moves.Move.{Move}
use Rattle.board_core.specs.declared.moves.Move.TheVariants as moves
use Rattle.board_core.specs.Laws.{SquaresApart, PlacesApart}
use Rattle.board_core.specs.Order.{order_of, RisesFrom, Lists, OrdersByOrigin, OrdersWithin}
use Rattle.list_laws.proofs.MoveLists.{Before, lists_until, lists_whole}
use Rattle.list_laws.specs.Added.{GoesFrom, IsDropOn, Adds}

-- 1. THE MOVES FROM A SQUARE.

from_square : OrdersByOrigin → (P : Move → Type 0) (from : Square) (plain promoted : Mask)
    → ((to : Square) → Holds plain to.number ↔ P (moves.Board from to false)) → ((to : Square) → Holds promoted to.number ↔ P (moves.Board from to true))
    → (m : Move) → GoesFrom from plain promoted m → Before P (162 * from.number + 162) m
from_square origins P from plain promoted one two (moves.Board origin to false) g = (
  subst (λ (f : Square). P (moves.Board f to false)) (sym g.0) ((one to).0 g.1),
  subst (λ (f : Square). order_of (moves.Board f to false) < 162 * from.number + 162) (sym g.0) (let t = origins from to false in t.1),
)
from_square origins P from plain promoted one two (moves.Board origin to true) g = (
  subst (λ (f : Square). P (moves.Board f to true)) (sym g.0) ((two to).0 g.1),
  subst (λ (f : Square). order_of (moves.Board f to true) < 162 * from.number + 162) (sym g.0) (let t = origins from to true in t.1),
)
from_square origins P from plain promoted one two (moves.Drop dropped to) g = absurd g

of_square : OrdersByOrigin → SquaresApart → (P : Move → Type 0) (from : Square) (plain promoted : Mask)
    → ((to : Square) → Holds plain to.number ↔ P (moves.Board from to false)) → ((to : Square) → Holds promoted to.number ↔ P (moves.Board from to true))
    → (m : Move) → P m → 162 * from.number ≤ order_of m → order_of m < 162 * from.number + 162 → GoesFrom from plain promoted m
of_square origins apart P from plain promoted one two (moves.Board origin to false) holds low high =
    let at = origins origin to false in
    let same : origin ≡ from = apart origin from (omega (arith, at.0, at.1, low, high)) in
    (same, (one to).1 (subst (λ (f : Square). P (moves.Board f to false)) same holds))
of_square origins apart P from plain promoted one two (moves.Board origin to true) holds low high =
    let at = origins origin to true in
    let same : origin ≡ from = apart origin from (omega (arith, at.0, at.1, low, high)) in
    (same, (two to).1 (subst (λ (f : Square). P (moves.Board f to true)) same holds))
of_square origins apart P from plain promoted one two (moves.Drop dropped to) holds low high =
    absurd (let within = from.on_board in omega (arith, high, within))

pub lists_from : OrdersByOrigin → SquaresApart → (P : Move → Type 0) (from : Square) (plain promoted : Mask) (old new : List Move)
    → ((to : Square) → Holds plain to.number ↔ P (moves.Board from to false)) → ((to : Square) → Holds promoted to.number ↔ P (moves.Board from to true))
    → Lists (Before P (162 * from.number)) old → Adds (GoesFrom from plain promoted) old new → RisesFrom 0 new
    → Lists (Before P (162 * from.number + 162)) new
lists_from origins apart P from plain promoted old new one two l adds rises = record {
  sound = λ m has. elim (adds.sound m has) [
    | inl before ↦ let was = l.sound m before in (was.0, omega (arith, was.1))
    | inr goes ↦ from_square origins P from plain promoted one two m goes
  ];
  complete = λ m is. elim (cases_lt (order_of m) (162 * from.number)) [
    | inl early ↦ adds.kept m (l.complete m (is.0, early))
    | inr late ↦ adds.added m (of_square origins apart P from plain promoted one two m is.0 late is.1)
  ];
  rises = rises;
}

-- 2. THE DROPS OF A KIND.

on_squares : (P : Move → Type 0) (dropping : Kind) (squares : Mask) → ((to : Square) → Holds squares to.number ↔ P (moves.Drop dropping to))
    → (m : Move) → IsDropOn dropping squares m → Before P (13122 + 81 * place_of dropping + 81) m
on_squares P dropping squares are (moves.Board from to promote) d = absurd d
on_squares P dropping squares are (moves.Drop dropped to) d =
    let within = to.on_board in (
      subst (λ (k : Kind). P (moves.Drop k to)) (sym d.0) ((are to).0 d.1),
      subst (λ (k : Kind). order_of (moves.Drop k to) < 13122 + 81 * place_of dropping + 81) (sym d.0) (omega arith),
    )

of_kind : OrdersByOrigin → PlacesApart → (P : Move → Type 0) (dropping : Kind) (squares : Mask)
    → ((to : Square) → Holds squares to.number ↔ P (moves.Drop dropping to))
    → (m : Move) → P m → 13122 + 81 * place_of dropping ≤ order_of m → order_of m < 13122 + 81 * place_of dropping + 81 → IsDropOn dropping squares m
of_kind origins apart P dropping squares are (moves.Board from to promote) holds low high =
    absurd (let at = origins from to promote in let within = from.on_board in omega (arith, at.1, low, within))
of_kind origins apart P dropping squares are (moves.Drop dropped to) holds low high =
    let within = to.on_board in
    let same : dropped ≡ dropping = apart dropped dropping (omega (arith, low, high, within)) in
    (same, (are to).1 (subst (λ (k : Kind). P (moves.Drop k to)) same holds))

pub lists_dropped : OrdersByOrigin → PlacesApart → (P : Move → Type 0) (dropping : Kind) (squares : Mask) (old new : List Move)
    → ((to : Square) → Holds squares to.number ↔ P (moves.Drop dropping to))
    → Lists (Before P (13122 + 81 * place_of dropping)) old → Adds (IsDropOn dropping squares) old new → RisesFrom 0 new
    → Lists (Before P (13122 + 81 * place_of dropping + 81)) new
lists_dropped origins apart P dropping squares old new are l adds rises = record {
  sound = λ m has. elim (adds.sound m has) [
    | inl before ↦ let was = l.sound m before in (was.0, omega (arith, was.1))
    | inr drop ↦ on_squares P dropping squares are m drop
  ];
  complete = λ m is. elim (cases_lt (order_of m) (13122 + 81 * place_of dropping)) [
    | inl early ↦ adds.kept m (l.complete m (is.0, early))
    | inr late ↦ adds.added m (of_kind origins apart P dropping squares are m is.0 late is.1)
  ];
  rises = rises;
}

-- 3. THE KINDS IN HAND, AMONG WHICH IS NO KING.

-- the kinds in their order stand at their places
pub placed : (d : Kind) (i : ℕ) → i < 7 → place_of (slice_index_or (Pawn ∷ Lance ∷ Knight ∷ Silver ∷ Gold ∷ Bishop ∷ Rook ∷ []) i d) ≡ i
placed d zero h = refl
placed d (suc zero) h = refl
placed d (suc (suc zero)) h = refl
placed d (suc (suc (suc zero))) h = refl
placed d (suc (suc (suc (suc zero)))) h = refl
placed d (suc (suc (suc (suc (suc zero))))) h = refl
placed d (suc (suc (suc (suc (suc (suc zero)))))) h = refl
placed d (suc (suc (suc (suc (suc (suc (suc n))))))) h = absurd (omega arith)

after_hands : OrdersByOrigin → (P : Move → Type 0) → ((to : Square) → ¬ P (moves.Drop King to)) → (m : Move) → P m → 13689 ≤ order_of m → ⊥
after_hands origins P none (moves.Board from to promote) holds late =
    let at = origins from to promote in let within = from.on_board in omega (arith, at.1, late, within)
after_hands origins P none (moves.Drop Pawn to) holds late = let within = to.on_board in omega (arith, late, within)
after_hands origins P none (moves.Drop Lance to) holds late = let within = to.on_board in omega (arith, late, within)
after_hands origins P none (moves.Drop Knight to) holds late = let within = to.on_board in omega (arith, late, within)
after_hands origins P none (moves.Drop Silver to) holds late = let within = to.on_board in omega (arith, late, within)
after_hands origins P none (moves.Drop Gold to) holds late = let within = to.on_board in omega (arith, late, within)
after_hands origins P none (moves.Drop Bishop to) holds late = let within = to.on_board in omega (arith, late, within)
after_hands origins P none (moves.Drop Rook to) holds late = let within = to.on_board in omega (arith, late, within)
after_hands origins P none (moves.Drop King to) holds late = none to holds

-- after the drops of all seven kinds the list is whole
pub lists_all : OrdersByOrigin → OrdersWithin → (P : Move → Type 0) → ((to : Square) → ¬ P (moves.Drop King to)) → (xs : List Move)
    → Lists (Before P 13689) xs → Lists P xs
lists_all origins within P none xs l =
    lists_whole P 13770 xs (lists_until P 13689 13770 xs (omega arith) l (λ m holds late _. after_hands origins P none m holds late)) within

-- 4. SQUARES THAT ARE TAKEN OUT OF A SET.

not_there : (t s : ℕ) → not (t == s) ≡ true → t ≡ s → ⊥
not_there t s h e = let f : not (t == s) ≡ false = ap not (eq-eqb t s e) in absurd (cc)

-- what is left after one was taken out was there and is another
pub taken_out : (left rest : Bool) (t s : ℕ) → rest ≡ (left && not (t == s)) → rest ≡ true → (left ≡ true) × (t ≡ s → ⊥)
taken_out left rest t s is has = let parts = and_parts left (not (t == s)) (sym is ∙ has) in (parts.0, not_there t s parts.1)

pub stays_in : (left rest : Bool) (t s : ℕ) → rest ≡ (left && not (t == s)) → left ≡ true → (t ≡ s → ⊥) → rest ≡ true
stays_in left rest t s is has apart = is ∙ and_from left (not (t == s)) has (ap not (ne_eqb t s apart))

-- 5. NOTHING TO LIST.

-- nothing is listed where there is nothing to list
pub lists_nothing : (P : Move → Type 0) → ((m : Move) → ¬ P m) → Lists P []
lists_nothing P none = record { sound = λ m h. absurd (let within = h.1 in omega arith); complete = λ m is. absurd (none m is); rises = tt }
