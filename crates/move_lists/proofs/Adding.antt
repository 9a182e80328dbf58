-- What is added to a list, a move at a time.
use Rattle.std.proofs.Common.{◌≡◌, ◌<◌, ◌≤◌, ◌+◌, ◌*◌, ◌&&◌, ◌||◌, ◌==◌, inl, inr, ℕ, suc, List, [], ◌∷◌, ◌++◌, Contains, Bool, true, false, not, arith, refl, sym, ap, ◌∙◌, subst, eq-eqb}
use Rattle.std.proofs.lemmas.Bool.{cases_eq, cases_lt, false≢true, true≢false, and_right, or_left, or_right}
use Rattle.bit_boards.specs.Kind.{place_of}
use Rattle.board_core.specs.Laws.{SquaresApart}
use Rattle.std.proofs.lemmas.List.Elements.{Contains-push, Contains-push_cases, Contains-append_left}
use Rattle.board_laws.proofs.Truth.{others_left, gone_before}
use Rattle.board_core.specs.declared.moves.Move.{Move}
use Rattle.board_core.specs.declared.moves.Move.TheVariants as moves
use Rattle.board_core.specs.Order.{order_of, RisesFrom}
use Rattle.bit_boards.specs.declared.square.Square.{Square}
use Rattle.bit_boards.specs.declared.piece.Kind.{Kind}
use Rattle.bit_boards.specs.declared.mask.Mask.{Mask}
use Rattle.bit_boards.specs.Mask.{holds, Holds}
use Rattle.list_laws.specs.Added.{Adds, IsOne, GoesFrom, IsDropOn}

-- a wanted move behind the others
pub one_added : (old : List Move) (by : Move) → Adds (IsOne true by) old (old ++ by ∷ [])
one_added old by = record {
  kept = λ m c. Contains-append_left old (by ∷ []) m c;
  added = λ m h. subst (λ (x : Move). Contains (old ++ by ∷ []) x) (sym h.1) (Contains-push old by);
  sound = λ m c. elim (Contains-push_cases old by m c) [
    | inl before ↦ inl before
    | inr is ↦ inr (refl, sym is)
  ];
}

-- one that isn't wanted
pub none_added : (old : List Move) (by : Move) → Adds (IsOne false by) old old
none_added old by = record { kept = λ m c. c; added = λ m h. absurd (false≢true h.0); sound = λ m c. inl c }

-- where the moves rise, and one comes after all of them, they rise with it
pub rises_one : (low : ℕ) (ms : List Move) (by : Move) → RisesFrom low ms → low ≤ order_of by
    → ((m : Move) → Contains ms m → order_of m < order_of by) → RisesFrom low (ms ++ by ∷ [])
rises_one low [] by h up later = (up, tt)
rises_one low (x ∷ ms) by h up later =
    let first : order_of x < order_of by = later x (0, omega arith, refl) in
    (h.0, rises_one (order_of x + 1) ms by h.1 (omega arith) (λ m c. later m (suc c.0, omega (arith, c.1), c.2)))

-- Adding what is there so far, and one square's moves more.

-- the square that a move goes to
abbrev pub goal_of : Move → ℕ
goal_of (moves.Board from to promote) = to.number
goal_of (moves.Drop dropped to) = to.number

-- the move has the property, and goes to no square that is left
abbrev pub IsDone : (Move → Type 0) → Mask → Move → Type 0
IsDone P left m = P m × (holds left (goal_of m) ≡ false)

and_true : (p : Bool) → (p && true) ≡ true → p ≡ true
and_true true h = refl
and_true false h = h

and_true_false : (p : Bool) → (p && true) ≡ false → p ≡ false
and_true_false true h = h
and_true_false false h = refl

-- of a set without one square

gone_here : (left rest : Bool) (t s : ℕ) → rest ≡ (left && not (t == s)) → t ≡ s → rest ≡ false
gone_here left rest t s e same = e ∙ (ap (λ b. left && not b) (eq-eqb t s same) ∙ (and_right left false refl))

gone_still : (left rest : Bool) (t s : ℕ) → rest ≡ (left && not (t == s)) → left ≡ false → rest ≡ false
gone_still left rest t s e is = e ∙ ap (λ b. b && not (t == s)) is

-- no square is left before the first one, which is taken out
abbrev pub TakesFirst : Mask → Mask → ℕ → Type 0
TakesFirst left rest s = ((t : ℕ) → t < s → holds left t ≡ false) × ((t : ℕ) → holds rest t ≡ (holds left t && not (t == s)))

pub after_first : (left rest : Mask) (s t : ℕ) → TakesFirst left rest s → holds rest t ≡ true → (holds left t ≡ true) × (s < t)
after_first left rest s t taken is =
    let was = others_left (holds left t) (holds rest t) t s (taken.1 t) is in (
      was.0,
      elim (cases_lt s t) [
        | inl after ↦ after
        | inr before ↦ absurd (true≢false (sym was.0 ∙ taken.0 t (omega (arith, before, was.1))))
      ],
    )

-- a wanted move to that square was added, and one to another square before
board_added : SquaresApart → (from to : Square) (plain promoted left rest : Mask) (old now one two : List Move) (stays turns : Bool)
    → stays ≡ holds plain to.number → turns ≡ holds promoted to.number → TakesFirst left rest to.number
    → Adds (IsDone (GoesFrom from plain promoted) left) old now
    → Adds (IsOne stays (moves.Board from to false)) now one → Adds (IsOne turns (moves.Board from to true)) one two
    → (m : Move) → GoesFrom from plain promoted m → holds rest (goal_of m) ≡ false → Contains two m
board_added apart from to plain promoted left rest old now one two stays turns is_plain is_promoted taken so_far first second (moves.Board f t false) goes gone =
    elim (cases_eq t.number to.number) [
      | inl same ↦
          let e = apart t to same in
          let wanted : stays ≡ true = is_plain ∙ (ap (holds plain) (sym same) ∙ goes.1) in
          second.kept _ (first.added (moves.Board f t false) (wanted, λ i. moves.Board (goes.0 i) (e i) false))
      | inr other ↦ second.kept _ (first.kept _ (so_far.added (moves.Board f t false) (goes, gone_before _ _ t.number to.number (taken.1 t.number) gone other)))
    ]
board_added apart from to plain promoted left rest old now one two stays turns is_plain is_promoted taken so_far first second (moves.Board f t true) goes gone =
    elim (cases_eq t.number to.number) [
      | inl same ↦
          let e = apart t to same in
          let wanted : turns ≡ true = is_promoted ∙ (ap (holds promoted) (sym same) ∙ goes.1) in
          second.added (moves.Board f t true) (wanted, λ i. moves.Board (goes.0 i) (e i) true)
      | inr other ↦ second.kept _ (first.kept _ (so_far.added (moves.Board f t true) (goes, gone_before _ _ t.number to.number (taken.1 t.number) gone other)))
    ]
board_added apart from to plain promoted left rest old now one two stays turns is_plain is_promoted taken so_far first second (moves.Drop dropped t) goes gone = absurd goes

-- the moves to one more square
pub board_more : SquaresApart → (from to : Square) (plain promoted left rest : Mask) (old now one two : List Move) (stays turns : Bool)
    → stays ≡ holds plain to.number → turns ≡ holds promoted to.number → TakesFirst left rest to.number
    → Adds (IsDone (GoesFrom from plain promoted) left) old now
    → ((m : Move) (t : ℕ) → Contains now m → Holds left t → order_of m < 162 * from.number + 2 * t)
    → Adds (IsOne stays (moves.Board from to false)) now one → Adds (IsOne turns (moves.Board from to true)) one two
    → Adds (IsDone (GoesFrom from plain promoted) rest) old two × ((m : Move) (t : ℕ) → Contains two m → Holds rest t → order_of m < 162 * from.number + 2 * t)
board_more apart from to plain promoted left rest old now one two stays turns is_plain is_promoted taken so_far later first second =
    let here = gone_here _ _ to.number to.number (taken.1 to.number) refl in (
      record {
        kept = λ m c. second.kept m (first.kept m (so_far.kept m c));
        added = λ m h. board_added apart from to plain promoted left rest old now one two stays turns is_plain is_promoted taken so_far first second m h.0 h.1;
        sound = λ m c. elim (second.sound m c) [
          | inr is ↦ inr (subst (IsDone (GoesFrom from plain promoted) rest) (sym is.1) ((refl, sym is_promoted ∙ is.0), here))
          | inl before ↦ elim (first.sound m before) [
            | inr is ↦ inr (subst (IsDone (GoesFrom from plain promoted) rest) (sym is.1) ((refl, sym is_plain ∙ is.0), here))
            | inl earlier ↦ elim (so_far.sound m earlier) [
              | inl there ↦ inl there
              | inr done ↦ inr (done.0, gone_still _ _ (goal_of m) to.number (taken.1 (goal_of m)) done.1)
            ]
          ]
        ];
      },
      (λ m t c is.
          let past = after_first left rest to.number t taken is in
          elim (second.sound m c) [
            | inr same ↦ subst (λ (x : Move). order_of x < 162 * from.number + 2 * t) (sym same.1) (omega (arith, past.1))
            | inl before ↦ elim (first.sound m before) [
              | inr same ↦ subst (λ (x : Move). order_of x < 162 * from.number + 2 * t) (sym same.1) (omega (arith, past.1))
              | inl earlier ↦ later m t earlier past.0
            ]
          ]),
    )

drop_added : SquaresApart → (wanted : Kind) (to : Square) (squares left rest : Mask) (old now one : List Move)
    → Holds squares to.number → TakesFirst left rest to.number → Adds (IsDone (IsDropOn wanted squares) left) old now
    → Adds (IsOne true (moves.Drop wanted to)) now one
    → (m : Move) → IsDropOn wanted squares m → holds rest (goal_of m) ≡ false → Contains one m
drop_added apart wanted to squares left rest old now one is taken so_far first (moves.Board f t promote) goes gone = absurd goes
drop_added apart wanted to squares left rest old now one is taken so_far first (moves.Drop dropped t) goes gone =
    elim (cases_eq t.number to.number) [
      | inl same ↦
          let e = apart t to same in
          first.added (moves.Drop dropped t) (refl, λ i. moves.Drop (goes.0 i) (e i))
      | inr other ↦ first.kept _ (so_far.added (moves.Drop dropped t) (goes, gone_before _ _ t.number to.number (taken.1 t.number) gone other))
    ]

-- the drop on one more square
pub drop_more : SquaresApart → (wanted : Kind) (to : Square) (squares left rest : Mask) (old now one : List Move)
    → Holds squares to.number → TakesFirst left rest to.number → Adds (IsDone (IsDropOn wanted squares) left) old now
    → ((m : Move) (t : ℕ) → Contains now m → Holds left t → order_of m < 13122 + 81 * place_of wanted + t)
    → Adds (IsOne true (moves.Drop wanted to)) now one
    → Adds (IsDone (IsDropOn wanted squares) rest) old one × ((m : Move) (t : ℕ) → Contains one m → Holds rest t → order_of m < 13122 + 81 * place_of wanted + t)
drop_more apart wanted to squares left rest old now one holds_it taken so_far later first =
    let here = gone_here _ _ to.number to.number (taken.1 to.number) refl in (
      record {
        kept = λ m c. first.kept m (so_far.kept m c);
        added = λ m h. drop_added apart wanted to squares left rest old now one holds_it taken so_far first m h.0 h.1;
        sound = λ m c. elim (first.sound m c) [
          | inr is ↦ inr (subst (IsDone (IsDropOn wanted squares) rest) (sym is.1) ((refl, holds_it), here))
          | inl earlier ↦ elim (so_far.sound m earlier) [
            | inl there ↦ inl there
            | inr done ↦ inr (done.0, gone_still _ _ (goal_of m) to.number (taken.1 (goal_of m)) done.1)
          ]
        ];
      },
      (λ m t c is.
          let past = after_first left rest to.number t taken is in
          elim (first.sound m c) [
            | inr same ↦ subst (λ (x : Move). order_of x < 13122 + 81 * place_of wanted + t) (sym same.1) (omega (arith, past.1))
            | inl earlier ↦ later m t earlier past.0
          ]),
    )

-- before the first square nothing is added
pub added_none : (P : Move → Type 0) (left : Mask) (old : List Move) → ((m : Move) → P m → holds left (goal_of m) ≡ true) → Adds (IsDone P left) old old
added_none P left old all = record { kept = λ m c. c; added = λ m h. absurd (true≢false (sym (all m h.0) ∙ h.1)); sound = λ m c. inl c }

-- where no square is left all is added
pub added_all : (P : Move → Type 0) (left : Mask) (old new : List Move) → ((t : ℕ) → holds left t ≡ false) → Adds (IsDone P left) old new → Adds P old new
added_all P left old new none a = record {
  kept = a.kept;
  added = λ m h. a.added m (h, none (goal_of m));
  sound = λ m c. elim (a.sound m c) [
    | inl there ↦ inl there
    | inr done ↦ inr done.0
  ];
}

-- moves from a square go to one of either set
pub goes_to_either : (from : Square) (plain promoted both : Mask) → ((t : ℕ) → holds both t ≡ (holds plain t || holds promoted t))
    → (m : Move) → GoesFrom from plain promoted m → holds both (goal_of m) ≡ true
goes_to_either from plain promoted both e (moves.Board f t false) h = e t.number ∙ or_left _ _ h.1
goes_to_either from plain promoted both e (moves.Board f t true) h = e t.number ∙ or_right _ _ h.1
goes_to_either from plain promoted both e (moves.Drop dropped t) h = absurd h

pub drops_on_set : (wanted : Kind) (squares : Mask) (m : Move) → IsDropOn wanted squares m → holds squares (goal_of m) ≡ true
drops_on_set wanted squares (moves.Board f t promote) h = absurd h
drops_on_set wanted squares (moves.Drop dropped t) h = h.1
