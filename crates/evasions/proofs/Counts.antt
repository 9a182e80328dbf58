-- How the answers in a list of evasions are counted.
use Rattle.std.proofs.Common.{◌≡◌, ◌<◌, ◌≤◌, ◌+◌, ◌↔◌, ◌||◌, ◌⊎◌, inl, inr, ℕ, zero, suc, List, length, [], ◌∷◌, Contains, Bool, true, false, arith, refl, sym, ap, ◌∙◌, subst, eq-eqb, count_by, cond}
use Rattle.std.specs.List.{filter, list_any, range_with_len}
use Rattle.std.proofs.lemmas.Bool.{cases_lt, eqb-true, or_cases, or_left, or_right}
use Rattle.std.proofs.lemmas.List.Sums.{length-filter, sum_by-cons}
use Rattle.std.proofs.lemmas.List.Folds.{Any-from_list_any, list_any-from_Any}
use Rattle.board_laws.proofs.Truth.{same_truth}
use Rattle.bit_boards.specs.declared.square.Square.{Square}
use Rattle.bit_boards.specs.declared.piece.Kind.{Kind}
use Rattle.bit_boards.specs.declared.piece.Kind.TheVariants.{Pawn, Lance, Knight, Silver, Gold, Bishop, Rook, King}
use Rattle.bit_boards.specs.declared.mask.Mask.{Mask}
use Rattle.bit_boards.specs.Kind.{place_of}
use Rattle.bit_boards.specs.Mask.{holds, Holds, count}
use Rattle.board_core.specs.declared.moves.Move.{Move}
use Rattle.board_core.specs.declared.moves.Move.TheVariants as moves
use Rattle.board_core.specs.Board.{Board}
use Rattle.board_core.specs.Kept.{IsKept}
use Rattle.board_core.specs.Laws.{PlacesApart}
use Rattle.board_core.specs.Order.{order_of, RisesFrom, Lists, OrdersApart, OrdersByOrigin}
use Rattle.list_laws.proofs.MoveLists.{Before, lists_one, first_or_rest}
use Rattle.list_laws.proofs.Counted.{AreBefore, square_of}
use Rattle.list_laws.proofs.Adding.{lists_nothing}
use Rattle.list_laws.proofs.Totals.{counted}
use Rattle.start_def.specs.Answers.{is_on_board, is_drop_on, answers_of}
use Rattle.evasions.specs.Before.{IsDropSquare, AreDropSquares}
use Rattle.evasions.proofs.Evading.{Evasion, no_king_drop}

-- 1. WHAT A TEST LEAVES OF A LIST IN ORDER.

rises_lower : (low high : ℕ) (xs : List Move) → low ≤ high → RisesFrom high xs → RisesFrom low xs
rises_lower low high [] up h = tt
rises_lower low high (x ∷ xs) up h = (omega (arith, h.0, up), h.1)

rises_one : (b : Bool) (low : ℕ) (x : Move) (xs : List Move) → low ≤ order_of x → RisesFrom (order_of x + 1) xs → RisesFrom low (cond b (x ∷ xs) xs)
rises_one true low x xs up h = (up, h)
rises_one false low x xs up h = rises_lower low (order_of x + 1) xs (omega (arith, up)) h

rises_kept : (p : Move → Bool) (low : ℕ) (xs : List Move) → RisesFrom low xs → RisesFrom low (filter p xs)
rises_kept p low [] h = tt
rises_kept p low (x ∷ xs) h = rises_one (p x) low x (filter p xs) h.0 (rises_kept p (order_of x + 1) xs h.1)

in_rest : (b : Bool) (x : Move) (xs : List Move) (m : Move) → Contains xs m → Contains (cond b (x ∷ xs) xs) m
in_rest true x xs m c = (suc c.0, omega (arith, c.1), c.2)
in_rest false x xs m c = c

is_first : (b : Bool) (x : Move) (xs : List Move) (m : Move) → b ≡ true → x ≡ m → Contains (cond b (x ∷ xs) xs) m
is_first true x xs m e is = (0, omega arith, is)
is_first false x xs m e is = absurd (cc)

-- what passes the test is kept
kept_there : (p : Move → Bool) (xs : List Move) (m : Move) → Contains xs m → p m ≡ true → Contains (filter p xs) m
kept_there p [] m c e = absurd (omega (arith, c.1))
kept_there p (x ∷ xs) m c e = elim (first_or_rest x xs m c) [
  | inl is ↦ is_first (p x) x (filter p xs) m (ap p is ∙ e) is
  | inr rest ↦ in_rest (p x) x (filter p xs) m (kept_there p xs m rest e)
]

kept_cases : (b : Bool) (x : Move) (xs : List Move) (m : Move) → Contains (cond b (x ∷ xs) xs) m → ((b ≡ true) × (x ≡ m)) ⊎ Contains xs m
kept_cases true x xs m c = elim (first_or_rest x xs m c) [
  | inl is ↦ inl (refl, is)
  | inr rest ↦ inr rest
]
kept_cases false x xs m c = inr c

-- what is kept was there and passes
was_there : (p : Move → Bool) (xs : List Move) (m : Move) → Contains (filter p xs) m → Contains xs m × (p m ≡ true)
was_there p [] m c = absurd (omega (arith, c.1))
was_there p (x ∷ xs) m c = elim (kept_cases (p x) x (filter p xs) m c) [
  | inl first ↦ ((0, omega arith, first.1), ap p (sym first.1) ∙ first.0)
  | inr rest ↦ let was = was_there p xs m rest in (in_rest true x xs m was.0, was.1)
]

-- 2. THE MOVES ON THE BOARD.

early_where_on_board : OrdersByOrigin → (m : Move) → is_on_board m ≡ true → order_of m < 13122
early_where_on_board origins (moves.Board from to promote) e =
    let at = origins from to promote in let within = from.on_board in omega (arith, at.1, within)
early_where_on_board origins (moves.Drop dropped to) e = absurd (cc)

on_board_where_early : (m : Move) → order_of m < 13122 → is_on_board m ≡ true
on_board_where_early (moves.Board from to promote) early = refl
on_board_where_early (moves.Drop dropped to) early = absurd (omega (arith, early))

lists_on_board : OrdersByOrigin → (P : Move → Type 0) (xs : List Move) → Lists P xs → Lists (Before P 13122) (filter is_on_board xs)
lists_on_board origins P xs l = record {
  sound = λ m c. let was = was_there is_on_board xs m c in (l.sound m was.0, early_where_on_board origins m was.1);
  complete = λ m h. kept_there is_on_board xs m (l.complete m h.0) (on_board_where_early m h.1);
  rises = rises_kept is_on_board 0 xs l.rises;
}

board_moves_counted : OrdersApart → OrdersByOrigin → (P : Move → Type 0) (many : ℕ) → AreBefore P 13122 many → (xs : List Move) → Lists P xs
    → many ≡ count_by is_on_board xs
board_moves_counted apart origins P many a xs l =
    let same : a.moves ≡ filter is_on_board xs = lists_one apart (Before P 13122) a.moves (filter is_on_board xs) a.lists (lists_on_board origins P xs l) in
    sym a.long ∙ ap (λ (ys : List Move). length ys) same ∙ length-filter is_on_board xs

-- 3. THE SQUARES OF ITS DROPS.

-- no evasion drops a king, which has the last place of the kinds
pub in_hand : (b : Board) → IsKept b → (dropped : Kind) (to : Square) → Evasion b (moves.Drop dropped to) → place_of dropped < 7
in_hand b kept Pawn to evasion = omega arith
in_hand b kept Lance to evasion = omega arith
in_hand b kept Knight to evasion = omega arith
in_hand b kept Silver to evasion = omega arith
in_hand b kept Gold to evasion = omega arith
in_hand b kept Bishop to evasion = omega arith
in_hand b kept Rook to evasion = omega arith
in_hand b kept King to evasion = absurd (no_king_drop b kept to evasion)

drop_at : (b : Board) → IsKept b → (squares : Mask) → AreDropSquares b 7 squares → (s : ℕ) (m : Move) → Evasion b m → is_drop_on s m ≡ true
    → holds squares s ≡ true
drop_at b kept squares are s (moves.Board from to promote) evasion e = absurd (cc)
drop_at b kept squares are s (moves.Drop dropped to) evasion e =
    subst (λ (n : ℕ). holds squares n ≡ true) (eqb-true to.number s e)
    ((are to).1 (record { dropped = dropped; evades = evasion; early = in_hand b kept dropped to evasion }))

listed_there : (b : Board) (squares : Mask) → AreDropSquares b 7 squares → (xs : List Move) → Lists (Evasion b) xs → (s : ℕ) → s < 81
    → holds squares s ≡ true → list_any (is_drop_on s) xs ≡ true
listed_there b squares are xs l s within has =
    let to = square_of s within in
    let drop = (are to).0 has in
    let listed = l.complete (moves.Drop drop.dropped to) drop.evades in
    list_any-from_Any (is_drop_on s) xs (listed.0, moves.Drop drop.dropped to, listed.1, listed.2, eq-eqb s s refl)

-- a drop of the list falls on a square exactly where the set has it
falls : (b : Board) → IsKept b → (squares : Mask) → AreDropSquares b 7 squares → (xs : List Move) → Lists (Evasion b) xs → (s : ℕ) → s < 81
    → holds squares s ≡ list_any (is_drop_on s) xs
falls b kept squares are xs l s within = same_truth (holds squares s) (list_any (is_drop_on s) xs) (listed_there b squares are xs l s within) (λ any.
    let found = Any-from_list_any (is_drop_on s) xs any in
    drop_at b kept squares are s found.1 (l.sound found.1 (found.0, found.2, found.3)) found.4)

-- tests that agree on numbers in turn pass as many
as_many_pass : (p q : ℕ → Bool) (k t : ℕ) → ((s : ℕ) → s < t + k → p s ≡ q s) → count_by p (range_with_len t k) ≡ count_by q (range_with_len t k)
as_many_pass p q zero t agree = refl
as_many_pass p q (suc k) t agree =
    let first : p t ≡ q t = agree t (omega arith) in
    let rest = as_many_pass p q k (t + 1) (λ s within. agree s (omega (arith, within))) in
    let one = sum_by-cons (λ y. cond (p y) 1 0) t (range_with_len (t + 1) k) in
    let two = sum_by-cons (λ y. cond (q y) 1 0) t (range_with_len (t + 1) k) in
    one ∙ ap (λ (b : Bool). cond b 1 0 + count_by p (range_with_len (t + 1) k)) first ∙ ap (λ (n : ℕ). cond (q t) 1 0 + n) rest ∙ sym two

drops_counted : (b : Board) → IsKept b → (squares : Mask) → AreDropSquares b 7 squares → (xs : List Move) → Lists (Evasion b) xs
    → count squares ≡ count_by (λ square. list_any (is_drop_on square) xs) (range_with_len 0 81)
drops_counted b kept squares are xs l =
    counted squares
    ∙ as_many_pass (holds squares) (λ square. list_any (is_drop_on square) xs) 81 0 (λ s within. falls b kept squares are xs l s (omega (arith, within)))

-- 4. THE SQUARES OF THE DROPS OF ONE MORE KIND.

with_kind : (b : Board) (i : ℕ) (dropping : Kind) → place_of dropping ≡ i → (old more : Mask) (to : Square)
    → (Holds more to.number ↔ Evasion b (moves.Drop dropping to)) → (Holds old to.number ↔ IsDropSquare b i to)
    → (holds old to.number ≡ true) ⊎ (holds more to.number ≡ true) → IsDropSquare b (i + 1) to
with_kind b i dropping at old more to is_more is_old (inl has) =
    let drop = is_old.0 has in
    record { dropped = drop.dropped; evades = drop.evades; early = omega (arith, drop.early) }
with_kind b i dropping at old more to is_more is_old (inr has) =
    record { dropped = dropping; evades = is_more.0 has; early = omega (arith, at) }

of_kinds : (b : Board) → PlacesApart → (i : ℕ) (dropping : Kind) → place_of dropping ≡ i → (old more : Mask) (to : Square)
    → (Holds more to.number ↔ Evasion b (moves.Drop dropping to)) → (Holds old to.number ↔ IsDropSquare b i to)
    → IsDropSquare b (i + 1) to → (holds old to.number || holds more to.number) ≡ true
of_kinds b apart i dropping at old more to is_more is_old drop = elim (cases_lt (place_of drop.dropped) i) [
  | inl early ↦ or_left _ _ (is_old.1 (record { dropped = drop.dropped; evades = drop.evades; early = early }))
  | inr late ↦
      let same : drop.dropped ≡ dropping = apart drop.dropped dropping (omega (arith, late, drop.early, at)) in
      or_right (holds old to.number) _ (is_more.1 (subst (λ (k : Kind). Evasion b (moves.Drop k to)) same drop.evades))
]

pub more_drop_squares : (b : Board) → PlacesApart → (i : ℕ) (dropping : Kind) → place_of dropping ≡ i → (old more both : Mask)
    → ((s : ℕ) → holds both s ≡ (holds old s || holds more s)) → ((to : Square) → Holds more to.number ↔ Evasion b (moves.Drop dropping to))
    → AreDropSquares b i old → AreDropSquares b (i + 1) both
more_drop_squares b apart i dropping at old more both either is_more is_old to = (
  (λ has. with_kind b i dropping at old more to (is_more to) (is_old to) (or_cases (holds old to.number) (holds more to.number) (sym (either to.number) ∙ has))),
  (λ drop. either to.number ∙ of_kinds b apart i dropping at old more to (is_more to) (is_old to) drop),
)

-- 5. THE ANSWERS.

pub answers_counted : OrdersApart → OrdersByOrigin → (b : Board) → IsKept b → (many : ℕ) → AreBefore (Evasion b) 13122 many
    → (squares : Mask) → AreDropSquares b 7 squares → (xs : List Move) → Lists (Evasion b) xs → many + count squares ≡ answers_of xs
answers_counted apart origins b kept many a squares are xs l =
    ap (λ (n : ℕ). n + count squares) (board_moves_counted apart origins (Evasion b) many a xs l)
    ∙ ap (λ (n : ℕ). count_by is_on_board xs + n) (drops_counted b kept squares are xs l)

none_counted : 0 ≡ answers_of []
none_counted = refl

-- where no move is an evasion there is no answer
pub no_answers : OrdersApart → (P : Move → Type 0) → ((m : Move) → ¬ P m) → (xs : List Move) → Lists P xs → 0 ≡ answers_of xs
no_answers apart P none xs l = none_counted ∙ ap (λ (ys : List Move). answers_of ys) (lists_one apart P [] xs (lists_nothing P none) l)
