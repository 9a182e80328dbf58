-- A list of moves that is filled from the squares of a set in rising order, then with the drops of
-- each kind in turn.
use Rattle.std.proofs.Common.{◌≡◌, ◌<◌, ◌≤◌, ◌+◌, ◌*◌, inl, inr, ℕ, List, [], arith, sym, ◌∙◌, subst, true, false, Bool}
use Rattle.std.proofs.lemmas.Bool.{cases_eq, cases_lt, true≢false}
use Rattle.board_core.specs.declared.moves.Move.{Move}
use Rattle.board_core.specs.declared.moves.Move.TheVariants as moves
use Rattle.board_core.specs.Order.{order_of, Lists, OrdersByOrigin}
use Rattle.list_laws.proofs.MoveLists.{Before, lists_none, lists_until}

-- The list holds the moves with the property from all squares of the first set before some place;
-- the second set holds the squares of the first that are left, none of them before that place.
pub record Fills (P : Move → Type 0) (own left : ℕ → Bool) (xs : List Move) : Type 0 where
  pub place : ℕ
  pub within : place ≤ 81
  pub lists : Lists (Before P (162 * place)) xs
  pub later : (s : ℕ) → left s ≡ true → place ≤ s
  pub kept : (s : ℕ) → place ≤ s → own s ≡ true → left s ≡ true

-- before the first square
pub fills_none : (P : Move → Type 0) (own : ℕ → Bool) → Fills P own own []
fills_none P own = record { place = 0; within = omega arith; lists = lists_none P; later = λ s h. omega arith; kept = λ s h is. is }

-- moves with the property come from the squares of a set alone
abbrev pub FromOwn : (Move → Type 0) → (ℕ → Bool) → Type 0
FromOwn P own = (from to : Rattle.bit_boards.specs.declared.square.Square.Square) (promote : Bool) → P (moves.Board from to promote) → own from.number ≡ true

-- no move with the property lies between the place and a square that is the first one left
none_between : OrdersByOrigin → (P : Move → Type 0) (own left : ℕ → Bool) (place s : ℕ) → FromOwn P own → s ≤ 81
    → ((t : ℕ) → place ≤ t → own t ≡ true → left t ≡ true) → ((t : ℕ) → t < s → left t ≡ false)
    → (m : Move) → P m → 162 * place ≤ order_of m → order_of m < 162 * s → ⊥
none_between origins P own left place s from_own within kept least (moves.Board from to promote) holds low high =
    let at = origins from to promote in
    let after : place ≤ from.number = omega (arith, at.0, at.1, low) in
    let before : from.number < s = omega (arith, at.0, at.1, high) in
    absurd (true≢false (sym (kept from.number after (from_own from to promote holds)) ∙ least from.number before))
none_between origins P own left place s from_own within kept least (moves.Drop dropped to) holds low high =
    omega (arith, high, within)

-- the list up to the first square that is left
pub fills_to : OrdersByOrigin → (P : Move → Type 0) (own left : ℕ → Bool) (xs : List Move) (s : ℕ) → FromOwn P own → s < 81
    → left s ≡ true → ((t : ℕ) → t < s → left t ≡ false) → Fills P own left xs → Lists (Before P (162 * s)) xs
fills_to origins P own left xs s from_own within here least f =
    let up = f.later s here in
    lists_until P (162 * f.place) (162 * s) xs (omega (arith, up)) f.lists
    (none_between origins P own left f.place s from_own (omega (arith, within)) f.kept least)

-- and after its moves were added
pub fills_more : (P : Move → Type 0) (own left rest : ℕ → Bool) (xs ys : List Move) (s : ℕ) → s < 81 → left s ≡ true
    → ((t : ℕ) → t < s → left t ≡ false) → ((t : ℕ) → rest t ≡ true → (left t ≡ true) × (t ≡ s → ⊥))
    → ((t : ℕ) → left t ≡ true → (t ≡ s → ⊥) → rest t ≡ true)
    → Fills P own left xs → Lists (Before P (162 * s + 162)) ys → Fills P own rest ys
fills_more P own left rest xs ys s within here least taken stays f lists = record {
  place = s + 1;
  within = omega (arith, within);
  lists = subst (λ (n : ℕ). Lists (Before P n) ys) (omega arith) lists;
  later = λ t is. let was = taken t is in
      elim (cases_lt t (s + 1)) [
        | inr above ↦ above
        | inl below ↦ elim (cases_eq t s) [
          | inl same ↦ absurd (was.1 same)
          | inr other ↦ absurd (true≢false (sym was.0 ∙ least t (omega (arith, below, other))))
        ]
      ];
  kept = λ t up is.
      let first = f.later s here in
      stays t (f.kept t (omega (arith, first, up)) is) (λ same. omega (arith, same, up));
}

-- where none is left, all moves on the board are listed
pub fills_all : OrdersByOrigin → (P : Move → Type 0) (own left : ℕ → Bool) (xs : List Move) → FromOwn P own → ((t : ℕ) → left t ≡ false)
    → Fills P own left xs → Lists (Before P 13122) xs
fills_all origins P own left xs from_own none f =
    lists_until P (162 * f.place) 13122 xs (omega (arith, f.within)) f.lists
    (λ m holds low high. none_between origins P own left f.place 81 from_own (omega arith) f.kept (λ t _. none t) m holds low (omega (arith, high)))
