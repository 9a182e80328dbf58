-- How sets of squares follow what squares hold.
use Rattle.std.proofs.Common.{◌≡◌, ◌<◌, ◌==◌, ℕ, List, Option, None, Bool, length, slice_set, sym, ap, ◌∙◌, inl, inr, if◌then◌else◌, eq-eqb, ne_eqb, ◌+◌, ◌≤◌, nat_lt, zero, suc, [], ◌∷◌, arith, refl}
use Rattle.std.proofs.lemmas.Bool.{cases_Bool, cases_eq, cases_lt, lt-ltb, le-ltb}
use Rattle.bit_boards.specs.declared.piece.Piece.{Piece}
use Rattle.bit_boards.specs.declared.piece.Side.TheVariants.{Black, White}
use Rattle.bit_boards.specs.declared.mask.Mask.{Mask}
use Rattle.bit_boards.specs.Mask.{holds}
use Rattle.board_core.specs.declared.sets.Sets.{Sets}
use Rattle.board_core.specs.Board.{piece_at}
use Rattle.board_core.specs.Sets.{AreSetsOf, is_of_side, is_king, is_pawn, is_slider}
use Rattle.board_core.proofs.Cells.{piece_at-set_same, piece_at-set_other}

-- a set that follows a test follows it after one square got something else, where it is put in or
-- left out as the test says
pub follows : (test : Option Piece → Bool) (old new : Mask) (at : ℕ → Option Piece) (i : ℕ) (v : Option Piece)
    → ((s : ℕ) → holds old s ≡ test (at s))
    → ((s : ℕ) → holds new s ≡ (if s == i then test v else holds old s))
    → (s : ℕ) → holds new s ≡ test (if s == i then v else at s)
follows test old new at i v before after s = after s ∙ elim (cases_Bool (s == i)) [
  | inl e ↦ ap (λ t. if t then test v else holds old s) e ∙ sym (ap (λ t. test (if t then v else at s)) e)
  | inr n ↦ ap (λ t. if t then test v else holds old s) n ∙ (before s ∙ sym (ap (λ t. test (if t then v else at s)) n))
]

-- sets are those of whatever holds the same
pub same_squares : (sets : Sets) (f g : ℕ → Option Piece) → ((s : ℕ) → f s ≡ g s) → AreSetsOf sets f → AreSetsOf sets g
same_squares sets f g same known = record {
  black = λ s. known.black s ∙ ap (is_of_side Black) (same s);
  white = λ s. known.white s ∙ ap (is_of_side White) (same s);
  kings = λ s. known.kings s ∙ ap is_king (same s);
  pawns = λ s. known.pawns s ∙ ap is_pawn (same s);
  sliders = λ s. known.sliders s ∙ ap is_slider (same s);
}

-- one cell written is one square that holds something else
pub written : (cells : List (Option Piece)) (i : ℕ) (v : Option Piece) → i < length cells
    → (s : ℕ) → (if s == i then v else piece_at cells s) ≡ piece_at (slice_set cells i v) s
written cells i v within s = elim (cases_eq s i) [
  | inl e ↦ ap (λ t. if t then v else piece_at cells s) (eq-eqb s i e)
      ∙ sym (ap (λ k. piece_at (slice_set cells i v) k) e ∙ piece_at-set_same cells i v within)
  | inr n ↦ ap (λ t. if t then v else piece_at cells s) (ne_eqb s i n) ∙ sym (piece_at-set_other cells i s v n)
]

-- one square more that was looked at
pub one_more : (cells : List (Option Piece)) (n : ℕ) (v : Option Piece) → v ≡ piece_at cells n
    → (s : ℕ) → (if s == n then v else (if nat_lt s n then piece_at cells s else None)) ≡ (if nat_lt s (n + 1) then piece_at cells s else None)
one_more cells n v is s = elim (cases_eq s n) [
  | inl e ↦ ap (λ t. if t then v else (if nat_lt s n then piece_at cells s else None)) (eq-eqb s n e)
      ∙ ((is ∙ sym (ap (piece_at cells) e)) ∙ sym (ap (λ t. if t then piece_at cells s else None) (lt-ltb s (n + 1) (omega arith))))
  | inr differ ↦ ap (λ t. if t then v else (if nat_lt s n then piece_at cells s else None)) (ne_eqb s n differ)
      ∙ elim (cases_lt s n) [
        | inl low ↦ ap (λ t. if t then piece_at cells s else None) (lt-ltb s n low)
            ∙ sym (ap (λ t. if t then piece_at cells s else None) (lt-ltb s (n + 1) (omega arith)))
        | inr high ↦ ap (λ t. if t then piece_at cells s else None) (le-ltb s n high)
            ∙ sym (ap (λ t. if t then piece_at cells s else None) (le-ltb s (n + 1) (omega arith)))
      ]
]

-- a square that holds nothing may be said to
pub still_empty : (at : ℕ → Option Piece) (n : ℕ) → at n ≡ None → (s : ℕ) → at s ≡ (if s == n then None else at s)
still_empty at n none s = elim (cases_eq s n) [
  | inl e ↦ (ap at e ∙ none) ∙ sym (ap (λ t. if t then None else at s) (eq-eqb s n e))
  | inr differ ↦ sym (ap (λ t. if t then None else at s) (ne_eqb s n differ))
]

-- a cell that isn't there holds nothing
pub nothing_past : (cells : List (Option Piece)) (s : ℕ) → length cells ≤ s → piece_at cells s ≡ None
nothing_past [] s h = refl
nothing_past (x ∷ xs) zero h = absurd (omega arith)
nothing_past (x ∷ xs) (suc s) h = nothing_past xs s (omega arith)

-- all squares were looked at
pub all_looked : (cells : List (Option Piece)) (n : ℕ) → length cells ≤ n
    → (s : ℕ) → (if nat_lt s n then piece_at cells s else None) ≡ piece_at cells s
all_looked cells n long s = elim (cases_lt s n) [
  | inl low ↦ ap (λ t. if t then piece_at cells s else None) (lt-ltb s n low)
  | inr high ↦ ap (λ t. if t then piece_at cells s else None) (le-ltb s n high) ∙ sym (nothing_past cells s (omega arith))
]
