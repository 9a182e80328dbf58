-- The position after a legal move is kept.
use Rattle.std.proofs.Common.{◌≡◌, ◌≢◌, ◌<◌, ◌≤◌, ◌+◌, ◌-◌, ◌⊎◌, ℕ, zero, suc, List, [], ◌∷◌, Option, Some, None, Bool, true, false, length, slice_set, arith, ap, sym, refl, ◌∙◌, subst, inl, inr, IsTrue}
use Rattle.std.specs.Prelude.{IsSomeAnd}
use Rattle.std.proofs.lemmas.Bool.{cases_Bool, and_parts, or_right, not-true}
use Rattle.std.proofs.lemmas.List.{length-set}
use Rattle.bit_boards.specs.declared.piece.Kind.{Kind}
use Rattle.bit_boards.specs.declared.piece.Kind.TheVariants.{Pawn, Lance, Knight, Silver, Gold, Bishop, Rook, King}
use Rattle.bit_boards.specs.declared.piece.Side.{Side}
use Rattle.bit_boards.specs.declared.piece.Side.TheVariants.{Black, White}
use Rattle.bit_boards.specs.declared.piece.Piece.{Piece}
use Rattle.bit_boards.specs.Kind.{total_of, place_of, same_kind, can_promote}
use Rattle.bit_boards.specs.Piece.{is_dead, plain_piece}
use Rattle.bit_boards.specs.Movement.{fits}
use Rattle.board_core.specs.declared.moves.Move.{Move}
use Rattle.board_core.specs.declared.moves.Move.TheVariants as moves
use Rattle.board_core.specs.Board.{Board, piece_at, is_pawn_of, count_of, with_cell, with_hand, with_more, with_less, with_turn_passed, hand_of, hand_count, one_if}
use Rattle.board_core.specs.Kept.{IsKept}
use Rattle.board_laws.proofs.Pieces.{same_kind_is, same_kind_refl}
use Rattle.board_laws.proofs.Kept.{take_kept, put_kept, changes_cell, count_of-more, count_of-less, no_king_held}
use Rattle.board_laws.proofs.Truth.{or_false}
use Rattle.shogi_rules.specs.Rules.{landed_piece, hand_with_capture, promotion_fits, after_board, after_drop, after, IsLegal}
use Rattle.shogi_rules.specs.Laws.{CanGo, CanDrop}
use Rattle.shogi_rules.proofs.Admitted.{can_go, can_drop}
use Rattle.shogi_rules.proofs.Moves.{king_gone, pawn_alone, pawn_place, goes_elsewhere, taken_left, moved_is}

-- 1. A HAND, AND WHOSE TURN IT IS.

-- whose turn it is is no matter of what is kept
pass_kept : (b : Board) → IsKept b → IsKept (with_turn_passed b)
pass_kept b k = record { cells = k.cells; black = k.black; white = k.white; totals = k.totals; kings = k.kings; alive = k.alive; pawns = k.pawns }

-- another hand of seven counts is kept where the totals are
hand_kept : (b : Board) (side : Side) (hand : List ℕ) → IsKept b → length hand ≡ 7
    → ((kind : Kind) → kind ≢ King → count_of (with_hand b side hand) kind ≤ total_of kind) → IsKept (with_hand b side hand)
hand_kept b Black hand k long totals = record { cells = k.cells; black = long; white = k.white; totals = totals; kings = k.kings; alive = k.alive; pawns = k.pawns }
hand_kept b White hand k long totals = record { cells = k.cells; black = k.black; white = long; totals = totals; kings = k.kings; alive = k.alive; pawns = k.pawns }

hand_long : (b : Board) (side : Side) → IsKept b → length (hand_of b side) ≡ 7
hand_long b Black k = k.black
hand_long b White k = k.white

same_hand : (b : Board) (side : Side) → with_hand b side (hand_of b side) ≡ b
same_hand b Black = refl
same_hand b White = refl

-- a hand has no place for a king
no_place : (hand : List ℕ) (n : ℕ) → length hand ≡ 7 → slice_set hand 7 n ≡ hand
no_place hand n long = past hand 7 n (omega (arith, long))
  where
    past : (xs : List ℕ) (i n : ℕ) → length xs ≤ i → slice_set xs i n ≡ xs
    past [] i n h = refl
    past (x ∷ xs) zero n h = absurd (omega (arith, h))
    past (x ∷ xs) (suc i) n h = ap (λ (ys : List ℕ). x ∷ ys) (past xs i n (omega (arith, h)))

king_or_not : (kind : Kind) → (kind ≡ King) ⊎ (kind ≢ King)
king_or_not Pawn = inr (λ e. cc)
king_or_not Lance = inr (λ e. cc)
king_or_not Knight = inr (λ e. cc)
king_or_not Silver = inr (λ e. cc)
king_or_not Gold = inr (λ e. cc)
king_or_not Bishop = inr (λ e. cc)
king_or_not Rook = inr (λ e. cc)
king_or_not King = inl refl

-- one more of a kind that isn't all there
counted_more : (b : Board) (side : Side) (more kind : Kind) → IsKept b → more ≢ King → count_of b more < total_of more → kind ≢ King
    → (same_kind more kind ≡ true) ⊎ (same_kind more kind ≡ false) → count_of (with_hand b side (with_more (hand_of b side) more)) kind ≤ total_of kind
counted_more b side more kind k plain left apart (inl same) =
    let now = count_of-more b side more kind k plain in
    let room : count_of b kind < total_of kind = subst (λ (q : Kind). count_of b q < total_of q) (same_kind_is more kind same) left in
    let one = ap one_if same in
    omega (arith, now, room, one)
counted_more b side more kind k plain left apart (inr differs) =
    let now = count_of-more b side more kind k plain in
    let most = k.totals kind apart in
    let none = ap one_if differs in
    omega (arith, now, most, none)

-- what was taken goes into a hand
more_kept : (b : Board) (side : Side) (more : Kind) → IsKept b → (more ≢ King → count_of b more < total_of more)
    → IsKept (with_hand b side (with_more (hand_of b side) more))
more_kept b side more k left = elim (king_or_not more) [
  | inl king ↦
      let same : with_more (hand_of b side) more ≡ hand_of b side =
      ap (λ (kind : Kind). with_more (hand_of b side) kind) king ∙ no_place (hand_of b side) (hand_count (hand_of b side) King + 1) (hand_long b side k) in
      subst IsKept (sym (ap (λ (hand : List ℕ). with_hand b side hand) same ∙ same_hand b side)) k
  | inr plain ↦
      hand_kept b side (with_more (hand_of b side) more) k
      (length-set (hand_of b side) (place_of more) (hand_count (hand_of b side) more + 1) ∙ hand_long b side k)
      (λ kind apart. counted_more b side more kind k plain (left plain) apart (cases_Bool (same_kind more kind)))
]

-- 2. A MOVE ON THE BOARD.

-- a piece that may stay as it is, or is promoted, can move again
alive_there : (man : Piece) (from to : ℕ) (promote : Bool) → IsTrue (promotion_fits man from to promote) → is_dead to (Some (landed_piece promote man)) ≡ false
alive_there man from to true may =
    let can = (and_parts _ _ (and_parts _ _ may).0).1 in
    rw (or_right man.promoted (can_promote man.kind) can) refl
alive_there man from to false may = rw (or_false man.promoted) (not-true _ may)

moved_kept : (b : Board) (from to : ℕ) (promote : Bool) (man : Piece) → piece_at b.cells from ≡ Some man → IsKept b → from < 81 → to < 81
    → CanGo b from to promote → IsKept (after_board b from to promote)
moved_kept b from to promote man there k start within can =
    let first = changes_cell b from None (omega (arith, k.cells, start)) in
    let taken = take_kept b from k start in
    let second = changes_cell (with_cell b from None) to None (omega (arith, taken.cells, within)) in
    let emptied = take_kept (with_cell b from None) to taken within in
    let apart = goes_elsewhere b from to can.own can.free in
    let fit : IsTrue (fits man from to) = subst (λ (cell : Option Piece). IsSomeAnd cell (λ piece. IsTrue (fits piece from to))) there can.fits in
    let may : IsTrue (promotion_fits man from to promote) =
    subst (λ (cell : Option Piece). IsSomeAnd cell (λ piece. IsTrue (promotion_fits piece from to promote))) there can.promotion in
    let last = changes_cell (with_cell (with_cell b from None) to None) to (Some (landed_piece promote man)) (omega (arith, emptied.cells, within)) in
    let put = put_kept (with_cell (with_cell b from None) to None) to (landed_piece promote man) emptied (record {
      within = within;
      empty = second.there;
      left_over = λ plain.
          let one = rw (there, same_kind_refl man.kind) at (first.counts man.kind) in
          let two = second.counts man.kind in
          let most = k.totals man.kind plain in
          omega arith;
      king = λ is. king_gone b (with_cell b from None) (with_cell (with_cell b from None) to None) from to man is (k.kings man.side) there first second;
      alive = alive_there man from to promote may;
      pawn = λ is. pawn_alone b (with_cell b from None) (with_cell (with_cell b from None) to None) from to promote man k start there fit first second is;
    }) in
    subst IsKept (moved_is b from to promote man there)
    (pass_kept _ (by_taken (piece_at b.cells to) refl put (λ taken at plain.
    taken_left b (with_cell b from None) (with_cell (with_cell b from None) to None) _ from to promote man taken k apart plain there at first second last)))
  where
    by_taken : (cell : Option Piece) → piece_at b.cells to ≡ cell → IsKept (with_cell (with_cell (with_cell b from None) to None) to (Some (landed_piece promote man)))
        → ((taken : Piece) → piece_at b.cells to ≡ Some taken → taken.kind ≢ King
        → count_of (with_cell (with_cell (with_cell b from None) to None) to (Some (landed_piece promote man))) taken.kind < total_of taken.kind)
        → IsKept (with_hand (with_cell (with_cell (with_cell b from None) to None) to (Some (landed_piece promote man))) b.side
        (hand_with_capture (piece_at b.cells to) (hand_of b b.side)))
    by_taken None at put left =
        subst IsKept (sym (ap (λ (cell : Option Piece). with_hand (with_cell (with_cell (with_cell b from None) to None) to (Some (landed_piece promote man))) b.side
        (hand_with_capture cell (hand_of b b.side))) at ∙ same_hand (with_cell (with_cell (with_cell b from None) to None) to (Some (landed_piece promote man))) b.side)) put
    by_taken (Some taken) at put left =
        subst IsKept (sym (ap (λ (cell : Option Piece). with_hand (with_cell (with_cell (with_cell b from None) to None) to (Some (landed_piece promote man))) b.side
        (hand_with_capture cell (hand_of b b.side))) at))
        (more_kept (with_cell (with_cell (with_cell b from None) to None) to (Some (landed_piece promote man))) b.side taken.kind put (left taken at))

board_kept : (b : Board) (from to : ℕ) (promote : Bool) → IsKept b → from < 81 → to < 81 → CanGo b from to promote → IsKept (after_board b from to promote)
board_kept b from to promote k start within can = by_man (piece_at b.cells from) refl
  where
    by_man : (cell : Option Piece) → piece_at b.cells from ≡ cell → IsKept (after_board b from to promote)
    by_man None there = absurd (subst (λ (cell : Option Piece). IsSomeAnd cell (λ piece. piece.side ≡ b.side)) there can.own)
    by_man (Some man) there = moved_kept b from to promote man there k start within can

-- 3. A DROP.

drop_kept : (b : Board) (kind : Kind) (to : ℕ) → IsKept b → to < 81 → CanDrop b kind to → IsKept (after_drop b kind to)
drop_kept b kind to k within can =
    let plain = no_king_held (hand_of b b.side) kind (hand_long b b.side k) can.in_hand in
    let less = λ (other : Kind). count_of-less b b.side kind other k plain can.in_hand in
    let spent = hand_kept b b.side (with_less (hand_of b b.side) kind) k
    (length-set (hand_of b b.side) (place_of kind) (hand_count (hand_of b b.side) kind - 1) ∙ hand_long b b.side k)
    (λ other apart. let now = less other in let most = k.totals other apart in omega (arith, now, most)) in
    pass_kept _ (put_kept (with_hand b b.side (with_less (hand_of b b.side) kind)) to (plain_piece kind b.side) spent (record {
      within = within;
      empty = can.empty;
      left_over = λ apart. let now = rw (same_kind_refl kind) at (less kind) in let most = k.totals kind plain in omega arith;
      king = λ is. absurd (plain is);
      alive = can.alive;
      pawn = λ is s low file. elim (cases_Bool (is_pawn_of b.side (piece_at b.cells s))) [
        | inr isnt ↦ isnt
        | inl there ↦ absurd (can.pawn (pawn_place kind (and_parts _ _ is).0, record { square = s; on_board = low; same_file = omega (arith, file); pawn = there }))
      ];
    }))

-- 4. A MOVE.

pub kept_after : (b : Board) (by : Move) → IsKept b → IsLegal b by → IsKept (after b by)
kept_after b (moves.Board from to promote) k legal =
    board_kept b from.number to.number promote k from.on_board to.on_board (can_go b from.number to.number promote (λ why. legal why))
kept_after b (moves.Drop kind to) k legal = drop_kept b kind to.number k to.on_board (can_drop b kind to.number (λ why. legal why))
