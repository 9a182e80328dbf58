-- Which pieces attack a king once a move is made, by the board before the move.
use Rattle.std.proofs.Common.{◌≡◌, ◌≢◌, ◌<◌, ◌&&◌, ◌==◌, inl, inr, ℕ, List, Option, Some, None, Bool, true, false, length, slice_set, is_some, not, arith, refl, sym, ap, subst, ◌∙◌, eq-eqb}
use Rattle.std.specs.Prelude.{IsSomeAnd}
use Rattle.std.specs.Option.{option_map}
use Rattle.std.proofs.lemmas.Bool.{cases_eq, eqb-true}
use Rattle.board_laws.proofs.Cells.{piece_at-set_same, piece_at-set_other, length-set}
use Rattle.bit_boards.specs.declared.piece.Side.{Side}
use Rattle.bit_boards.specs.declared.piece.Piece.{Piece}
use Rattle.bit_boards.specs.Kind.{other}
use Rattle.bit_boards.specs.Movement.{IsBetween, StepsAreNear}
use Rattle.board_core.specs.Board.{Board, piece_at}
use Rattle.shogi_rules.specs.Rules.{landed_piece, after_board, Reaches, IsClear, AttacksFrom}
use Rattle.attack_lines.specs.Lines.{is_occupied_without, AttacksWithout, IsShield}
use Rattle.attack_laws.specs.Unveiled.{IsUnveiled}
use Rattle.attack_laws.proofs.Lying.{nested, not_first, not_over, went_before}

-- 1. WHAT A MOVE CHANGES.

-- the piece stands on the one square, the other is empty, and all else is as it was
pub record Arrives (old new : List (Option Piece)) (from to : ℕ) (landed : Piece) : Type 0 where
  pub stands : piece_at new to ≡ Some landed
  pub left : piece_at new from ≡ None
  pub elsewhere : (s : ℕ) → s ≢ to → s ≢ from → piece_at new s ≡ piece_at old s

pub arrives_board : (b : Board) (from to : ℕ) (promote : Bool) (piece : Piece) → length b.cells ≡ 81 → from < 81 → to < 81 → from ≢ to
    → piece_at b.cells from ≡ Some piece → Arrives b.cells (after_board b from to promote).cells from to (landed_piece promote piece)
arrives_board b from to promote piece long low high apart there =
    let lifted = slice_set b.cells from None in
    let end : to < length lifted = omega (arith, length-set b.cells from None) in
    let landed = option_map (landed_piece promote) (piece_at b.cells from) in
    record {
      stands = piece_at-set_same lifted to landed end ∙ ap (option_map (landed_piece promote)) there;
      left = piece_at-set_other lifted to from landed apart ∙ piece_at-set_same b.cells from None (omega arith);
      elsewhere = λ s n m. piece_at-set_other lifted to s landed n ∙ piece_at-set_other b.cells from s None m;
    }

-- 2. CELLS.

pub some_of : (cell : Option Piece) (P : Piece → Type 0) → IsSomeAnd cell P → (p : Piece) × (cell ≡ Some p) × P p
some_of None P h = absurd h
some_of (Some p) P h = (p, refl, h)

pub some_by : (cell : Option Piece) (P : Piece → Type 0) (p : Piece) → cell ≡ Some p → P p → IsSomeAnd cell P
some_by cell P p e h = subst (λ (c : Option Piece). IsSomeAnd c P) (sym e) h

same_cell : (one two : Option Piece) (P : Piece → Type 0) → one ≡ two → IsSomeAnd one P → IsSomeAnd two P
same_cell one two P e h = subst (λ (c : Option Piece). IsSomeAnd c P) e h

pub none_some : {A : Type 0} (cell : Option Piece) (p : Piece) → cell ≡ None → cell ≡ Some p → A
none_some cell p e f = absurd (cc)

pub empty_of : (cell : Option Piece) (other : Bool) → other ≡ true → (is_some cell && other) ≡ false → cell ≡ None
empty_of None other e h = refl
empty_of (Some p) other e h = absurd (cc)

pub empty_is : (cell : Option Piece) (other : Bool) → cell ≡ None → (is_some cell && other) ≡ false
empty_is cell other e = ap (λ (c : Option Piece). is_some c && other) e

lifted_is : (some : Bool) (s : ℕ) → (some && not (s == s)) ≡ false
lifted_is true s = ap not (eq-eqb s s refl)
lifted_is false s = refl

pub not_same : (s t : ℕ) → s ≢ t → not (s == t) ≡ true
not_same s t n = grind (arith, eqb-true)

-- 3. THE PIECE THAT MOVED.

-- what it reaches before the others have made way, it reaches
pub reaches_after : (old new : List (Option Piece)) (from to : ℕ) (landed : Piece) (end : ℕ) → Arrives old new from to landed
    → Reaches old landed to end → Reaches new landed to end
reaches_after old new from to landed end a r = record {
  fit = r.fit;
  clear = λ m between. elim (cases_eq m from) [
    | inl e ↦ ap (piece_at new) e ∙ a.left
    | inr n ↦ a.elsewhere m (not_first to m end between) n ∙ r.clear m between
  ];
}

-- its origin doesn't lie between, since it would have attacked from there
from_aside : StepsAreNear → (old new : List (Option Piece)) (from to : ℕ) (promote : Bool) (piece : Piece) (end : ℕ) → to < 81 → end < 81
    → Arrives old new from to (landed_piece promote piece) → piece_at old from ≡ Some piece → ¬ AttacksFrom old piece.side from end
    → Reaches new (landed_piece promote piece) to end → ¬ IsBetween to from end
from_aside near old new from to promote piece end high low a there none r between =
    none (some_by (piece_at old from) _ piece there (
      refl,
      record {
        fit = went_before near promote piece to from end high low between r.fit;
        clear = λ m inside.
            sym (a.elsewhere m (λ e. not_over to from end between (subst (λ (x : ℕ). IsBetween from x end) e inside)) (not_first from m end inside))
            ∙ r.clear m (nested to from m end between inside);
      },
    ))

pub reaches_before : StepsAreNear → (old new : List (Option Piece)) (from to : ℕ) (promote : Bool) (piece : Piece) (end : ℕ) → to < 81 → end < 81
    → Arrives old new from to (landed_piece promote piece) → piece_at old from ≡ Some piece → ¬ AttacksFrom old piece.side from end
    → Reaches new (landed_piece promote piece) to end → Reaches old (landed_piece promote piece) to end
reaches_before near old new from to promote piece end high low a there none r = record {
  fit = r.fit;
  clear = λ m between. elim (cases_eq m from) [
    | inl e ↦ absurd (from_aside near old new from to promote piece end high low a there none r (subst (λ (x : ℕ). IsBetween to x end) e between))
    | inr n ↦ sym (a.elsewhere m (not_first to m end between) n) ∙ r.clear m between
  ];
}

-- 4. THE OTHERS.

pub clear_without : (old new : List (Option Piece)) (from to : ℕ) (landed : Piece) (s end : ℕ) → Arrives old new from to landed
    → IsClear new s end → (m : ℕ) → IsBetween s m end → is_occupied_without old from m ≡ false
clear_without old new from to landed s end a clear m between = elim (cases_eq m from) [
  | inl e ↦ subst (λ (x : ℕ). is_occupied_without old x m ≡ false) e (lifted_is (is_some (piece_at old m)) m)
  | inr n ↦ elim (cases_eq m to) [
    | inl e ↦ none_some (piece_at new to) landed (subst (λ (x : ℕ). piece_at new x ≡ None) e (clear m between)) a.stands
    | inr k ↦ empty_is (piece_at old m) _ (sym (a.elsewhere m k n) ∙ clear m between)
  ]
]

pub clear_with : (old new : List (Option Piece)) (from to : ℕ) (landed : Piece) (s end : ℕ) → Arrives old new from to landed
    → ((m : ℕ) → IsBetween s m end → is_occupied_without old from m ≡ false) → ¬ IsBetween s to end → IsClear new s end
clear_with old new from to landed s end a clear aside m between = elim (cases_eq m from) [
  | inl e ↦ ap (piece_at new) e ∙ a.left
  | inr n ↦ a.elsewhere m (λ e. aside (subst (λ (x : ℕ). IsBetween s x end) e between)) n
      ∙ empty_of (piece_at old m) (not (m == from)) (not_same m from n) (clear m between)
]

pub unveiled_of : (old new : List (Option Piece)) (side : Side) (from to : ℕ) (landed : Piece) (s end : ℕ) → Arrives old new from to landed
    → s < 81 → s ≢ to → AttacksFrom new side s end → IsUnveiled old side from to end
unveiled_of old new side from to landed s end a low apart attack =
    let n : s ≢ from = λ e. absurd (let t = some_of (piece_at new s) _ attack in none_some {A = ⊥} (piece_at new s) t.0 (ap (piece_at new) e ∙ a.left) t.1) in
    let t = some_of (piece_at new s) _ attack in
    record {
      from = s;
      on_board = low;
      attacks = some_by (piece_at old s) _ t.0 (sym (a.elsewhere s apart n) ∙ t.1) (t.2.0, (t.2.1.fit, clear_without old new from to landed s end a t.2.1.clear));
      aside = λ between. none_some {A = ⊥} (piece_at new to) landed (t.2.1.clear to between) a.stands;
    }

-- with what stands on the square itself lifted, it attacks no more than before
attacks_itself : (cells : List (Option Piece)) (side : Side) (from end : ℕ) → AttacksWithout cells side from from end → AttacksFrom cells side from end
attacks_itself cells side from end attack =
    let t = some_of (piece_at cells from) _ attack in
    some_by (piece_at cells from) _ t.0 t.1 (
      t.2.0,
      record {
        fit = t.2.1.0;
        clear = λ m between. empty_of (piece_at cells m) (not (m == from)) (not_same m from (not_first from m end between)) (t.2.1.1 m between);
      },
    )

pub unveiled_attacks : (old new : List (Option Piece)) (side : Side) (from to : ℕ) (landed : Piece) (end : ℕ) → Arrives old new from to landed
    → ¬ AttacksFrom old side from end → ¬ IsSomeAnd (piece_at old to) (λ piece. piece.side ≡ side)
    → (u : IsUnveiled old side from to end) → AttacksFrom new side u.from end
unveiled_attacks old new side from to landed end a none free u =
    let t = some_of (piece_at old u.from) _ u.attacks in
    let n : u.from ≢ from = λ e. none (attacks_itself old side from end (subst (λ (x : ℕ). AttacksWithout old side from x end) e u.attacks)) in
    let k : u.from ≢ to = λ e. free (some_by (piece_at old to) _ t.0 (sym (ap (piece_at old) e) ∙ t.1) t.2.0) in
    some_by (piece_at new u.from) _ t.0 (a.elsewhere u.from k n ∙ t.1)
    (t.2.0, record { fit = t.2.1.0; clear = clear_with old new from to landed u.from end a t.2.1.1 u.aside })

-- what isn't a shield unveils nothing
pub veils_nothing : (cells : List (Option Piece)) (side : Side) (from to end : ℕ) → ((s : ℕ) → s < 81 → ¬ AttacksFrom cells side s end)
    → ¬ IsShield cells side from end → ¬ IsUnveiled cells side from to end
veils_nothing cells side from to end quiet none u =
    none (record { from = u.from; on_board = u.on_board; lifted = u.attacks; blocked = quiet u.from u.on_board })
