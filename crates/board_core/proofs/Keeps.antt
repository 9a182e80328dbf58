use Rattle.std.proofs.Common.{◌≡◌, ◌≢◌, ◌<◌, ◌≤◌, ◌⊎◌, inl, inr, ℕ, List, Option, Some, None, Bool, true, false, length, slice_set, arith, ap, sym, refl, ◌∙◌, subst}
use Rattle.std.proofs.lemmas.Bool.{cases_eq, cases_Bool, and_parts}
use Rattle.bit_boards.specs.declared.piece.Piece.{Piece}
use Rattle.bit_boards.specs.declared.piece.Kind.{Kind}
use Rattle.bit_boards.specs.declared.piece.Kind.TheVariants.{King}
use Rattle.bit_boards.specs.declared.piece.Side.{Side}
use Rattle.bit_boards.specs.Square.{file_of}
use Rattle.bit_boards.specs.Kind.{same_kind, total_of}
use Rattle.bit_boards.specs.Piece.{is_dead}
use Rattle.board_core.specs.Board.{Board, piece_at, is_of_kind, is_king_of, is_pawn_of, count_of, kings_of, with_cell, one_if}
use Rattle.board_core.specs.Kept.{IsKept, TwoPawnsOn}
use Rattle.board_core.proofs.EachKind.{same_kind_is, same_side_is}
use Rattle.board_core.proofs.Cells.{piece_at-set_same, piece_at-set_other, count_by-set, length-set}

-- a cell after one was written: the one that was, or an old one
pub cell_cases : (P : Option Piece → Type 0) (cells : List (Option Piece)) (i j : ℕ) (v : Option Piece) → i < length cells
    → P (piece_at (slice_set cells i v) j) → ((j ≡ i) × P v) ⊎ ((j ≢ i) × P (piece_at cells j))
cell_cases P cells i j v within h = elim (cases_eq j i) [
  | inl e ↦ inl (e, subst P (ap (λ k. piece_at (slice_set cells i v) k) e ∙ piece_at-set_same cells i v within) h)
  | inr n ↦ inr (n, subst P (piece_at-set_other cells i j v n) h)
]

still_pawn : (cells : List (Option Piece)) (side : Side) (i j : ℕ) → i < length cells
    → is_pawn_of side (piece_at (slice_set cells i None) j) ≡ true → is_pawn_of side (piece_at cells j) ≡ true
still_pawn cells side i j within h = elim (cell_cases (λ o. is_pawn_of side o ≡ true) cells i j None within h) [
  | inl same ↦ absurd (let no : false ≡ true = same.1 in cc)
  | inr old ↦ old.1
]

-- taking a piece off the board keeps what a position keeps
pub take_kept : (b : Board) (i : ℕ) → IsKept b → i < 81 → IsKept (with_cell b i None)
take_kept b i k within =
    let inside : i < length b.cells = omega (arith, k.cells) in
    let gone = piece_at-set_same b.cells i None inside in
    record {
      cells = length-set b.cells i None ∙ k.cells;
      black = k.black;
      white = k.white;
      totals = λ d n. let c = count_by-set (is_of_kind d) b.cells i None inside in let t = k.totals d n in omega arith;
      kings = λ s. let c = count_by-set (is_king_of s) b.cells i None inside in let t = k.kings s in omega arith;
      alive = λ s h. elim (cases_eq s i) [
        | inl e ↦ rw (e, gone) refl
        | inr n ↦ rw (piece_at-set_other b.cells i s None n) (k.alive s h)
      ];
      pawns = λ side file two.
          let old = λ (j : ℕ) (h : is_pawn_of side (piece_at (slice_set b.cells i None) j) ≡ true). still_pawn b.cells side i j inside h in
          k.pawns side file (record {
            one = two.one;
            two = two.two;
            apart = two.apart;
            on_board = two.on_board;
            file_one = two.file_one;
            file_two = two.file_two;
            pawn_one = old two.one two.pawn_one;
            pawn_two = old two.two two.pawn_two;
          });
    }

pawn_side : (side : Side) (p : Piece) → is_pawn_of side (Some p) ≡ true → p.side ≡ side
pawn_side side p h = same_side_is p.side side ((and_parts _ _ (and_parts _ _ h).1).1)

king_facts : (side : Side) (p : Piece) → is_king_of side (Some p) ≡ true → (p.kind ≡ King) × (p.side ≡ side)
king_facts side p h = (same_kind_is p.kind King ((and_parts _ _ h).0), same_side_is p.side side ((and_parts _ _ h).1))

pub one_if_most : (t : Bool) → one_if t ≤ 1
one_if_most true = omega arith
one_if_most false = omega arith

-- what a piece that is put has to meet
pub record MayStand (b : Board) (i : ℕ) (p : Piece) : Type 0 where
  pub within : i < 81
  pub empty : piece_at b.cells i ≡ None
  pub left_over : p.kind ≢ King → count_of b p.kind < total_of p.kind
  pub king : p.kind ≡ King → kings_of b p.side ≡ 0
  pub alive : is_dead i (Some p) ≡ false
  pub pawn : is_pawn_of p.side (Some p) ≡ true → (s : ℕ) → s < 81 → file_of s ≡ file_of i → is_pawn_of p.side (piece_at b.cells s) ≡ false

put_total : (b : Board) (i : ℕ) (p : Piece) (d : Kind) → IsKept b → MayStand b i p → d ≢ King
    → count_of (with_cell b i (Some p)) d ≤ total_of d
put_total b i p d k m n =
    let c = rw m.empty at (count_by-set (is_of_kind d) b.cells i (Some p) (omega (arith, k.cells, m.within))) in
    let t = k.totals d n in
    elim (cases_Bool (same_kind p.kind d)) [
      | inl same ↦
          let is = same_kind_is p.kind d same in
          let more : count_of b d < total_of d = subst (λ (q : Kind). count_of b q < total_of q) is (m.left_over (λ e. n (sym is ∙ e))) in
          let e = rw same at c in
          omega arith
      | inr differ ↦ let e = rw differ at c in omega arith
    ]

put_kings : (b : Board) (i : ℕ) (p : Piece) (side : Side) → IsKept b → MayStand b i p → kings_of (with_cell b i (Some p)) side ≤ 1
put_kings b i p side k m =
    let c = rw m.empty at (count_by-set (is_king_of side) b.cells i (Some p) (omega (arith, k.cells, m.within))) in
    let t = k.kings side in
    elim (cases_Bool (is_king_of side (Some p))) [
      | inl same ↦
          let is = king_facts side p same in
          let none : kings_of b side ≡ 0 = subst (λ (s : Side). kings_of b s ≡ 0) is.1 (m.king is.0) in
          let e = rw same at c in
          omega arith
      | inr differ ↦ let e = rw differ at c in omega arith
    ]

-- a pawn that stands there after a piece was put: the piece itself, or one that stood there
put_pawn : (b : Board) (i : ℕ) (p : Piece) (side : Side) (j : ℕ) → IsKept b → MayStand b i p
    → is_pawn_of side (piece_at (slice_set b.cells i (Some p)) j) ≡ true
    → ((j ≡ i) × (is_pawn_of side (Some p) ≡ true)) ⊎ ((j ≢ i) × (is_pawn_of side (piece_at b.cells j) ≡ true))
put_pawn b i p side j k m h = cell_cases (λ o. is_pawn_of side o ≡ true) b.cells i j (Some p) (omega (arith, k.cells, m.within)) h

-- no pawn of the side stands on the file already
put_second : (b : Board) (i : ℕ) (p : Piece) (side : Side) (j : ℕ) → MayStand b i p → is_pawn_of side (Some p) ≡ true
    → j < 81 → file_of j ≡ file_of i → is_pawn_of side (piece_at b.cells j) ≡ true → ⊥
put_second b i p side j m pawn within file old =
    let is = pawn_side side p pawn in
    let none = m.pawn (subst (λ (s : Side). is_pawn_of s (Some p) ≡ true) (sym is) pawn) j within file in
    let none_of : is_pawn_of side (piece_at b.cells j) ≡ false = subst (λ (s : Side). is_pawn_of s (piece_at b.cells j) ≡ false) is none in
    absurd (cc)

put_pawns : (b : Board) (i : ℕ) (p : Piece) (side : Side) (file : ℕ) → IsKept b → MayStand b i p
    → TwoPawnsOn (slice_set b.cells i (Some p)) side file → ⊥
put_pawns b i p side file k m t =
    elim (put_pawn b i p side t.one k m t.pawn_one) [
      | inl x ↦ elim (put_pawn b i p side t.two k m t.pawn_two) [
        | inl y ↦ let e = x.0 in let f = y.0 in let a = t.apart in omega arith
        | inr y ↦ put_second b i p side t.two m x.1 t.on_board (t.file_two ∙ (sym t.file_one ∙ ap file_of x.0)) y.1
      ]
      | inr x ↦ elim (put_pawn b i p side t.two k m t.pawn_two) [
        | inl y ↦ let a = t.apart in let w = t.on_board in
            put_second b i p side t.one m y.1 (omega arith) (t.file_one ∙ (sym t.file_two ∙ ap file_of y.0)) x.1
        | inr y ↦ k.pawns side file (record {
          one = t.one;
          two = t.two;
          apart = t.apart;
          on_board = t.on_board;
          file_one = t.file_one;
          file_two = t.file_two;
          pawn_one = x.1;
          pawn_two = y.1;
        })
      ]
    ]

-- putting a piece that may stand there keeps what a position keeps
pub put_kept : (b : Board) (i : ℕ) (p : Piece) → IsKept b → MayStand b i p → IsKept (with_cell b i (Some p))
put_kept b i p k m = record {
  cells = length-set b.cells i (Some p) ∙ k.cells;
  black = k.black;
  white = k.white;
  totals = λ d n. put_total b i p d k m n;
  kings = λ s. put_kings b i p s k m;
  alive = λ s h. elim (cases_eq s i) [
    | inl e ↦ rw (e, piece_at-set_same b.cells i (Some p) (omega (arith, k.cells, m.within))) m.alive
    | inr n ↦ rw (piece_at-set_other b.cells i s (Some p) n) (k.alive s h)
  ];
  pawns = λ side file t. put_pawns b i p side file k m t;
}
