-- Lists of moves in order, made a stretch of the order at a time.
use Rattle.std.proofs.Common.{◌≡◌, ◌<◌, ◌≤◌, ◌+◌, ◌⊎◌, inl, inr, ℕ, zero, suc, List, length, [], ◌∷◌, ◌++◌, Contains, arith, refl, sym, ◌∙◌, subst}
use Rattle.std.proofs.lemmas.Bool.{cases_eq, cases_lt}
use Rattle.std.proofs.lemmas.List.Elements.{Contains-push, Contains-push_cases, Contains-append_left}
use Rattle.board_core.specs.declared.moves.Move.{Move}
use Rattle.board_core.specs.Order.{order_of, RisesFrom, Lists, OrdersApart}
-- a later move of rising ones comes later in the order
pub use Rattle.board_core.proofs.MoveLists.{rises_at}

-- the move has the property, and comes before a place in the order
abbrev pub Before : (Move → Type 0) → ℕ → Move → Type 0
Before P place m = P m × (order_of m < place)

rises_push : (low place : ℕ) (ms : List Move) (m : Move) → RisesFrom low ms → ((q : Move) → Contains ms q → order_of q < place)
    → low ≤ place → order_of m ≡ place → RisesFrom low (ms ++ m ∷ [])
rises_push low place [] m h before up e = (omega arith, tt)
rises_push low place (x ∷ ms) m h before up e =
    let first : order_of x < place = before x (0, omega arith, refl) in
    (h.0, rises_push (order_of x + 1) place ms m h.1 (λ q c. before q (suc c.0, omega (arith, c.1), c.2)) (omega arith) e)

-- one more move in order
pub lists_more : OrdersApart → (P : Move → Type 0) (n : ℕ) (xs : List Move) (m : Move) → Lists (Before P n) xs → order_of m ≡ n → P m
    → Lists (Before P (n + 1)) (xs ++ m ∷ [])
lists_more apart P n xs m l e holds = record {
  sound = λ q h. elim (Contains-push_cases xs m q h) [
    | inl old ↦ let was = l.sound q old in (was.0, omega (arith, was.1))
    | inr is ↦ subst (Before P (n + 1)) is (holds, omega arith)
  ];
  complete = λ q h. elim (cases_eq (order_of q) n) [
    | inl same ↦ subst (λ (x : Move). Contains (xs ++ m ∷ []) x) (apart m q (e ∙ sym same)) (Contains-push xs m)
    | inr other ↦ Contains-append_left xs (m ∷ []) q (l.complete q (h.0, omega (arith, h.1)))
  ];
  rises = rises_push 0 n xs m l.rises (λ q c. (l.sound q c).1) (omega arith) e;
}

-- the same list, where the move at the place hasn't the property
pub lists_same : OrdersApart → (P : Move → Type 0) (n : ℕ) (xs : List Move) (m : Move) → Lists (Before P n) xs → order_of m ≡ n → ¬ P m
    → Lists (Before P (n + 1)) xs
lists_same apart P n xs m l e fails = record {
  sound = λ q h. let was = l.sound q h in (was.0, omega (arith, was.1));
  complete = λ q h. elim (cases_eq (order_of q) n) [
    | inl same ↦ absurd (fails (subst P (apart q m (same ∙ sym e)) h.0))
    | inr other ↦ l.complete q (h.0, omega (arith, h.1))
  ];
  rises = l.rises;
}

-- where every move with the property comes before the place, the list is whole
pub lists_whole : (P : Move → Type 0) (n : ℕ) (xs : List Move) → Lists (Before P n) xs → ((m : Move) → order_of m < n) → Lists P xs
lists_whole P n xs l all = record {
  sound = λ m h. (l.sound m h).0;
  complete = λ m h. l.complete m (h, all m);
  rises = l.rises;
}

-- where no move with the property lies in a stretch of the order, the list reaches past it
pub lists_past : (P : Move → Type 0) (n more : ℕ) (xs : List Move) → Lists (Before P n) xs
    → ((m : Move) → P m → n ≤ order_of m → order_of m < n + more → ⊥) → Lists (Before P (n + more)) xs
lists_past P n more xs l none = record {
  sound = λ q h. let was = l.sound q h in (was.0, omega (arith, was.1));
  complete = λ m h. elim (cases_lt (order_of m) n) [
    | inl early ↦ l.complete m (h.0, early)
    | inr late ↦ absurd (none m h.0 late h.1)
  ];
  rises = l.rises;
}

-- before any place there is no move
pub lists_none : (P : Move → Type 0) → Lists (Before P 0) []
lists_none P = record {
  sound = λ q h. absurd (omega (arith, h.1));
  complete = λ m h. absurd (omega (arith, h.1));
  rises = tt;
}

-- the same place, written in another way
pub at_order : (P : Move → Type 0) (n k : ℕ) (xs : List Move) → n ≡ k → Lists (Before P n) xs → Lists (Before P k) xs
at_order P n k xs e l = subst (λ (j : ℕ). Lists (Before P j) xs) e l

-- places in the order of moves that are free of the property may be left out
pub lists_until : (P : Move → Type 0) (n k : ℕ) (xs : List Move) → n ≤ k → Lists (Before P n) xs → ((m : Move) → P m → n ≤ order_of m → order_of m < k → ⊥)
    → Lists (Before P k) xs
lists_until P n k xs up l none = record {
  sound = λ q h. let was = l.sound q h in (was.0, omega (arith, was.1, up));
  complete = λ m h. elim (cases_lt (order_of m) n) [
    | inl early ↦ l.complete m (h.0, early)
    | inr late ↦ absurd (none m h.0 late h.1)
  ];
  rises = l.rises;
}

-- the list after the moves of a stretch of the order were added
pub lists_added : (P Q : Move → Type 0) (n k : ℕ) (old new : List Move) → n ≤ k → Lists (Before P n) old → RisesFrom 0 new
    → ((m : Move) → Contains old m → Contains new m) → ((m : Move) → Q m → Contains new m)
    → ((m : Move) → Contains new m → Contains old m ⊎ Q m)
    → ((m : Move) → Q m → Before P k m) → ((m : Move) → P m → n ≤ order_of m → order_of m < k → Q m)
    → Lists (Before P k) new
lists_added P Q n k old new up l rises kept added sound good all = record {
  sound = λ m c. elim (sound m c) [
    | inl before ↦ let was = l.sound m before in (was.0, omega (arith, was.1, up))
    | inr more ↦ good m more
  ];
  complete = λ m h. elim (cases_lt (order_of m) n) [
    | inl early ↦ kept m (l.complete m (h.0, early))
    | inr late ↦ added m (all m h.0 late h.1)
  ];
  rises = rises;
}

rises_low : (low : ℕ) (ms : List Move) → RisesFrom low ms → (m : Move) → Contains ms m → low ≤ order_of m
rises_low low [] h m c = absurd (omega (arith, c.1))
rises_low low (x ∷ ms) h m (zero, in_range, is) = subst (λ (y : Move). low ≤ order_of y) is h.0
rises_low low (x ∷ ms) h m (suc i, in_range, is) =
    let rest = rises_low (order_of x + 1) ms h.1 m (i, omega (arith, in_range), is) in
    omega (arith, rest, h.0)

pub first_or_rest : (x : Move) (xs : List Move) (m : Move) → Contains (x ∷ xs) m → (x ≡ m) ⊎ Contains xs m
first_or_rest x xs m (zero, in_range, is) = inl is
first_or_rest x xs m (suc i, in_range, is) = inr (i, omega (arith, in_range), is)

in_rest : (x : Move) (xs : List Move) (m : Move) → Contains xs m → Contains (x ∷ xs) m
in_rest x xs m c = (suc c.0, omega (arith, c.1), c.2)

-- what both lists have behind their first move
rest_there : (x : Move) (xs ys : List Move) → RisesFrom (order_of x + 1) xs → ((m : Move) → Contains (x ∷ xs) m → Contains (x ∷ ys) m)
    → (m : Move) → Contains xs m → Contains ys m
rest_there x xs ys h there m c = elim (first_or_rest x ys m (there m (in_rest x xs m c))) [
  | inl is ↦ let late = rises_low (order_of x + 1) xs h m c in absurd (omega (arith, subst (λ (y : Move). order_of y + 1 ≤ order_of m) is late))
  | inr rest ↦ rest
]

-- two lists that rise and have the same moves are one
rises_same : OrdersApart → (low : ℕ) (xs ys : List Move) → RisesFrom low xs → RisesFrom low ys
    → ((m : Move) → Contains xs m → Contains ys m) → ((m : Move) → Contains ys m → Contains xs m) → xs ≡ ys
rises_same apart low [] [] h k there back = refl
rises_same apart low [] (y ∷ ys) h k there back = let c = back y (0, omega arith, refl) in absurd (omega (arith, c.1))
rises_same apart low (x ∷ xs) [] h k there back = let c = there x (0, omega arith, refl) in absurd (omega (arith, c.1))
rises_same apart low (x ∷ xs) (y ∷ ys) h k there back =
    let up = rises_low (order_of y) (y ∷ ys) (omega arith, k.1) x (there x (0, omega arith, refl)) in
    let down = rises_low (order_of x) (x ∷ xs) (omega arith, h.1) y (back y (0, omega arith, refl)) in
    let same : x ≡ y = apart x y (omega (arith, up, down)) in
    let later : RisesFrom (order_of x + 1) ys = subst (λ (z : Move). RisesFrom (order_of z + 1) ys) (sym same) k.1 in
    let there_again : (m : Move) → Contains (x ∷ xs) m → Contains (x ∷ ys) m =
    subst (λ (z : Move). (m : Move) → Contains (x ∷ xs) m → Contains (z ∷ ys) m) (sym same) there in
    let back_again : (m : Move) → Contains (x ∷ ys) m → Contains (x ∷ xs) m =
    subst (λ (z : Move). (m : Move) → Contains (z ∷ ys) m → Contains (x ∷ xs) m) (sym same) back in
    let tails : xs ≡ ys = rises_same apart (order_of x + 1) xs ys h.1 later (rest_there x xs ys h.1 there_again) (rest_there x ys xs later back_again) in
    λ i. same i ∷ tails i

-- a list of exactly the moves with a property, in order, is the only one
pub lists_one : OrdersApart → (P : Move → Type 0) (xs ys : List Move) → Lists P xs → Lists P ys → xs ≡ ys
lists_one apart P xs ys l k =
    rises_same apart 0 xs ys l.rises k.rises (λ m c. k.complete m (l.sound m c)) (λ m c. l.complete m (k.sound m c))

-- a list that rises within so many places has no more moves
pub rises_within : (low high : ℕ) (xs : List Move) → RisesFrom low xs → ((m : Move) → Contains xs m → order_of m < high) → low ≤ high
    → low + length xs ≤ high
rises_within low high [] h below up = omega arith
rises_within low high (x ∷ xs) h below up =
    let first : order_of x < high = below x (0, omega arith, refl) in
    let rest = rises_within (order_of x + 1) high xs h.1 (λ m c. below m (in_rest x xs m c)) (omega arith) in
    omega (arith, h.0, rest)
