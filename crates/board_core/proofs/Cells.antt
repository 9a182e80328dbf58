use Rattle.std.proofs.Common.{◌≡◌, ◌≢◌, ◌<◌, ◌+◌, ℕ, zero, suc, List, [], ◌∷◌, Option, None, Bool, true, false, cond, length, slice_set, arith, ap, refl, get_or}
use Rattle.std.specs.List.{count_by}
use Rattle.std.proofs.lemmas.List.Sums.{sum_by-set}
use Rattle.bit_boards.specs.declared.piece.Piece.{Piece}
use Rattle.board_core.specs.Board.{Board, piece_at, is_of_kind, is_king_of, with_cell, one_if, ChangesCell}

-- a cell that was written holds what was written
pub piece_at-set_same : (cells : List (Option Piece)) (i : ℕ) (v : Option Piece) → i < length cells → piece_at (slice_set cells i v) i ≡ v
piece_at-set_same [] i v h = absurd (omega arith)
piece_at-set_same (x ∷ xs) zero v h = refl
piece_at-set_same (x ∷ xs) (suc i) v h = piece_at-set_same xs i v (omega arith)

-- the other cells stay
pub piece_at-set_other : (cells : List (Option Piece)) (i j : ℕ) (v : Option Piece) → j ≢ i → piece_at (slice_set cells i v) j ≡ piece_at cells j
piece_at-set_other [] i j v h = refl
piece_at-set_other (x ∷ xs) zero zero v h = absurd (h refl)
piece_at-set_other (x ∷ xs) zero (suc j) v h = refl
piece_at-set_other (x ∷ xs) (suc i) zero v h = refl
piece_at-set_other (x ∷ xs) (suc i) (suc j) v h = piece_at-set_other xs i j v (λ e. h (ap suc e))

pub piece_at-get_or : (cells : List (Option Piece)) (i : ℕ) → get_or cells i None ≡ piece_at cells i
piece_at-get_or [] i = refl
piece_at-get_or (x ∷ xs) zero = refl
piece_at-get_or (x ∷ xs) (suc i) = piece_at-get_or xs i

one_if-cond : (b : Bool) → one_if b ≡ cond b 1 0
one_if-cond true = refl
one_if-cond false = refl

-- a count over the cells changes with one cell by what was there and what is there
pub count_by-set : (p : Option Piece → Bool) (cells : List (Option Piece)) (i : ℕ) (v : Option Piece) → i < length cells
    → count_by p (slice_set cells i v) + one_if (p (piece_at cells i)) ≡ count_by p cells + one_if (p v)
count_by-set p cells i v h =
    rw (one_if-cond (p (piece_at cells i)), one_if-cond (p v)) (rw (piece_at-get_or cells i) at (sum_by-set (λ x. cond (p x) 1 0) cells i v None h))

pub length-set : (cells : List (Option Piece)) (i : ℕ) (v : Option Piece) → length (slice_set cells i v) ≡ length cells
length-set [] i v = refl
length-set (x ∷ xs) zero v = refl
length-set (x ∷ xs) (suc i) v = ap suc (length-set xs i v)

-- what a board with one cell written differs in
pub changes_cell : (b : Board) (i : ℕ) (v : Option Piece) → i < length b.cells → ChangesCell b (with_cell b i v) i v
changes_cell b i v within = record {
  there = piece_at-set_same b.cells i v within;
  elsewhere = λ s n. piece_at-set_other b.cells i s v n;
  counts = λ k. let c = count_by-set (is_of_kind k) b.cells i v within in omega arith;
  kings = λ s. count_by-set (is_king_of s) b.cells i v within;
}
