-- What a move on the board needs and keeps.
use Rattle.std.proofs.Common.{◌≡◌, ◌≢◌, ◌<◌, ◌≤◌, ◌+◌, ◌/◌, inl, inr, ◌||◌, ◌&&◌, ◌==◌, ℕ, zero, suc, List, [], ◌∷◌, Option, Some, None, Bool, true, false, slice_set, IsTrue, IsSome, arith, ap, sym, refl, subst}
use Rattle.std.proofs.lemmas.Bool.{cases_eq, cases_order, eq-eqb, cases_Bool, and_parts, or_parts, not-true}
use Rattle.std.proofs.lemmas.Bool.Decides.{eqb_tells}
use Rattle.std.proofs.lemmas.Option.{same_Some}
use Rattle.board_laws.proofs.Sides.{same_side_itself, other_twice}
use Rattle.board_laws.proofs.Pieces.{not_the_king}
use Rattle.bit_boards.specs.declared.piece.Piece.{Piece}
use Rattle.bit_boards.specs.declared.piece.Kind.{Kind}
use Rattle.bit_boards.specs.declared.piece.Kind.TheVariants.{Pawn, Lance, Knight, Silver, Gold, Bishop, Rook, King}
use Rattle.bit_boards.specs.declared.piece.Side.{Side}
use Rattle.bit_boards.specs.declared.piece.Side.TheVariants.{Black, White}
use Rattle.bit_boards.specs.Square.{file_of}
use Rattle.bit_boards.specs.Kind.{other, same_kind, total_of, can_promote, place_of}
use Rattle.board_core.specs.Board.{Board, piece_at, is_of_kind, is_king_of, is_pawn_of, count_of, kings_of, with_cell, with_hand, with_turn_passed, hand_of, one_if, ChangesCell}
use Rattle.board_core.specs.Kept.{IsKept, TwoPawnsOn}
use Rattle.bit_boards.specs.Movement.{fits, distance}
use Rattle.shogi_rules.specs.Rules.{landed_piece, hand_with_capture, after_board, IsClear, IsQuiet, IsOwn}

other_of : (s t : Side) → s ≢ t → s ≡ other t
other_of Black Black h = absurd (h refl)
other_of Black White h = refl
other_of White Black h = refl
other_of White White h = absurd (h refl)

-- the king on a square, by its piece
king_there : (p : Piece) → p.kind ≡ King → is_king_of p.side (Some p) ≡ true
king_there p kind = rw (kind, same_side_itself p.side) refl

-- where the king moved, its side has none on the board
pub king_gone : (b t u : Board) (from to : ℕ) (man : Piece) → man.kind ≡ King → kings_of b man.side ≤ 1 → piece_at b.cells from ≡ Some man
    → ChangesCell b t from None → ChangesCell t u to None → kings_of u man.side ≡ 0
king_gone b t u from to man kind most there first second =
    let one = rw (there, king_there man kind) at (first.kings man.side) in
    let two = second.kings man.side in
    omega arith

first_holds : (a b c : Bool) → IsTrue ((a && b) || c) → c ≡ false → a ≡ true
first_holds true b c h e = refl
first_holds false b c h e = absurd (cc)

-- a pawn stays on its file
pawn_file : (man : Piece) (from to : ℕ) → IsTrue (fits man from to) → man.kind ≡ Pawn → man.promoted ≡ false → to / 9 ≡ from / 9
pawn_file man from to fit kind plain =
    let same : (distance (from / 9) (to / 9) == 0) ≡ true = first_holds _ _ _ (rw (kind, plain) at fit) refl in
    grind (arith, eqb_tells (distance (from / 9) (to / 9)) 0, same)

pub pawn_place : (k : Kind) → same_kind k Pawn ≡ true → k ≡ Pawn
pawn_place Pawn h = refl
pawn_place Lance h = absurd (cc)
pawn_place Knight h = absurd (cc)
pawn_place Silver h = absurd (cc)
pawn_place Gold h = absurd (cc)
pawn_place Bishop h = absurd (cc)
pawn_place Rook h = absurd (cc)
pawn_place King h = absurd (cc)

-- two pawns on two squares of a file
two_pawns : (cells : List (Option Piece)) (side : Side) (s t : ℕ) → s < 81 → t < 81 → s ≢ t → file_of s ≡ file_of t
    → is_pawn_of side (piece_at cells s) ≡ true → is_pawn_of side (piece_at cells t) ≡ true → TwoPawnsOn cells side (file_of t)
two_pawns cells side s t low high apart file one two = elim (cases_order s t) [
  | inl e ↦ absurd (apart e)
  | inr o ↦ elim o [
    | inl below ↦ record { one = s; two = t; apart = below; on_board = high; file_one = file; file_two = refl; pawn_one = one; pawn_two = two }
    | inr above ↦ record { one = t; two = s; apart = above; on_board = low; file_one = refl; file_two = file; pawn_one = two; pawn_two = one }
  ]
]

no_second : (b t u : Board) (from to s : ℕ) (man : Piece) → IsKept b → from < 81 → piece_at b.cells from ≡ Some man
    → ChangesCell b t from None → ChangesCell t u to None → man.kind ≡ Pawn → man.promoted ≡ false → to / 9 ≡ from / 9
    → s < 81 → file_of s ≡ file_of to → is_pawn_of man.side (piece_at u.cells s) ≡ true → ⊥
no_second b t u from to s man kept start there first second kind plain moved within file is =
    elim (cases_eq s to) [
      | inl e ↦ let none : is_pawn_of man.side (piece_at u.cells s) ≡ false = rw (e, second.there) refl in absurd (cc)
      | inr n ↦ elim (cases_eq s from) [
        | inl e ↦ let none : is_pawn_of man.side (piece_at u.cells s) ≡ false = rw (second.elsewhere s n, e, first.there) refl in absurd (cc)
        | inr m ↦
            let old : is_pawn_of man.side (piece_at b.cells s) ≡ true = rw (second.elsewhere s n, first.elsewhere s m) at is in
            let here : is_pawn_of man.side (piece_at b.cells from) ≡ true = rw (there, kind, plain, same_side_itself man.side) refl in
            let same : file_of s ≡ file_of from = omega arith in
            kept.pawns man.side (file_of from) (two_pawns b.cells man.side s from within start m same old here)
      ]
    ]

-- a pawn that moved meets no other pawn of its side on its file
pub pawn_alone : (b t u : Board) (from to : ℕ) (promote : Bool) (man : Piece) → IsKept b → from < 81 → piece_at b.cells from ≡ Some man
    → IsTrue (fits man from to) → ChangesCell b t from None → ChangesCell t u to None
    → is_pawn_of man.side (Some (landed_piece promote man)) ≡ true
    → (s : ℕ) → s < 81 → file_of s ≡ file_of to → is_pawn_of man.side (piece_at u.cells s) ≡ false
pawn_alone b t u from to promote man kept start there fit first second pawn s within file =
    let kind : man.kind ≡ Pawn = pawn_place man.kind ((and_parts _ _ pawn).0) in
    let plain : man.promoted ≡ false = (or_parts man.promoted (promote && can_promote man.kind) (not-true _ ((and_parts _ _ ((and_parts _ _ pawn).1)).0))).0 in
    let moved : to / 9 ≡ from / 9 = pawn_file man from to fit kind plain in
    elim (cases_Bool (is_pawn_of man.side (piece_at u.cells s))) [
      | inr isnt ↦ isnt
      | inl is ↦ absurd (no_second b t u from to s man kept start there first second kind plain moved within file is)
    ]

-- one's own piece goes where none of one's own stands, so to another square
pub goes_elsewhere : (b : Board) (from to : ℕ) → IsOwn b from → ¬ IsOwn b to → from ≢ to
goes_elsewhere b from to own free same = free (subst (λ (s : ℕ). IsOwn b s) same own)

-- a piece that a legal move may take is no king
pub no_king_taken : (b : Board) (from to : ℕ) (man taken : Piece) → IsQuiet b → from < 81 → to < 81 → piece_at b.cells from ≡ Some man
    → man.side ≡ b.side → ¬ IsOwn b to → IsTrue (fits man from to) → IsClear b.cells from to → piece_at b.cells to ≡ Some taken → taken.kind ≢ King
no_king_taken b from to man taken quiet start within there owner free fit clear at king =
    let foe : taken.side ≡ other b.side = other_of taken.side b.side (λ s. free (rw at s)) in
    let is : is_king_of (other b.side) (piece_at b.cells to) ≡ true =
    rw at (subst (λ (s : Side). is_king_of s (Some taken) ≡ true) foe (king_there taken king)) in
    quiet (
      to,
      within,
      record { king = is; attacked = (from, start, rw (there, other_twice b.side) (owner, record { fit = fit; clear = clear })) },
    )

-- what was taken is left over
pub taken_left : (b t u v : Board) (from to : ℕ) (promote : Bool) (man taken : Piece) → IsKept b → from ≢ to → taken.kind ≢ King
    → piece_at b.cells from ≡ Some man → piece_at b.cells to ≡ Some taken
    → ChangesCell b t from None → ChangesCell t u to None → ChangesCell u v to (Some (landed_piece promote man))
    → count_of v taken.kind < total_of taken.kind
taken_left b t u v from to promote man taken kept apart king there at first second third =
    let most = kept.totals taken.kind king in
    let one = rw there at (first.counts taken.kind) in
    let two = rw (first.elsewhere to (λ e. apart (sym e)), at, eq-eqb (place_of taken.kind) (place_of taken.kind) refl) at (second.counts taken.kind) in
    let three = rw second.there at (third.counts taken.kind) in
    omega arith

set_set : (cells : List (Option Piece)) (i : ℕ) (v w : Option Piece) → slice_set (slice_set cells i v) i w ≡ slice_set cells i w
set_set [] i v w = refl
set_set (x ∷ xs) zero v w = refl
set_set (x ∷ xs) (suc i) v w = ap (λ (ys : List (Option Piece)). x ∷ ys) (set_set xs i v w)

-- emptying both squares and putting the piece is the move on the board
pub moved_is : (b : Board) (from to : ℕ) (promote : Bool) (man : Piece) → piece_at b.cells from ≡ Some man
    → with_turn_passed (with_hand (with_cell (with_cell (with_cell b from None) to None) to (Some (landed_piece promote man))) b.side (hand_with_capture (piece_at b.cells to) (hand_of b b.side)))
    ≡ after_board b from to promote
moved_is b from to promote man there = rw (there, set_set (slice_set b.cells from None) to None (Some (landed_piece promote man))) refl

-- a move on the board keeps the count of each kind
pub conserves : (b t u v w : Board) (from to : ℕ) (promote : Bool) (man : Piece) (k : Kind) → from ≢ to → piece_at b.cells from ≡ Some man
    → ChangesCell b t from None → ChangesCell t u to None → ChangesCell u v to (Some (landed_piece promote man))
    → count_of w k ≡ count_of v k + one_if (is_of_kind k (piece_at b.cells to)) → count_of w k ≡ count_of b k
conserves b t u v w from to promote man k apart there first second third last =
    let one = rw there at (first.counts k) in
    let two = rw (first.elsewhere to (λ e. apart (sym e))) at (second.counts k) in
    let three = rw second.there at (third.counts k) in
    omega arith

-- a cell without a king counts for none
pub no_king_there : (side : Side) (cell : Option Piece) → ((taken : Piece) → cell ≡ Some taken → taken.kind ≢ King) → one_if (is_king_of side cell) ≡ 0
no_king_there side None free = refl
no_king_there side (Some taken) free = rw (not_the_king taken.kind (free taken refl)) refl

-- a move on the board keeps the kings
pub kings_stay : (b t u v w : Board) (from to : ℕ) (promote : Bool) (man : Piece) (side : Side) → from ≢ to → piece_at b.cells from ≡ Some man
    → one_if (is_king_of side (piece_at b.cells to)) ≡ 0
    → ChangesCell b t from None → ChangesCell t u to None → ChangesCell u v to (Some (landed_piece promote man))
    → kings_of w side ≡ kings_of v side → kings_of w side ≡ kings_of b side
kings_stay b t u v w from to promote man side apart there free first second third last =
    let one = rw there at (first.kings side) in
    let two = rw (first.elsewhere to (λ e. apart (sym e))) at (second.kings side) in
    let three = rw second.there at (third.kings side) in
    omega arith

pub empty_there : (cell : Option Piece) → ¬ IsSome cell → cell ≡ None
empty_there None h = refl
empty_there (Some piece) h = absurd (h refl)

-- a drop of another piece keeps the kings
pub kings_dropped : (b v : Board) (to : ℕ) (piece : Piece) (side : Side) → piece.kind ≢ King → piece_at b.cells to ≡ None
    → ChangesCell b v to (Some piece) → kings_of v side ≡ kings_of b side
kings_dropped b v to piece side king empty change =
    let one = rw empty at (change.kings side) in
    let none = no_king_there side (Some piece) (λ taken is k. king (subst (λ (p : Piece). p.kind ≡ King) (sym (same_Some piece taken is)) k)) in
    omega arith
