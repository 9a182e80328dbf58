-- What a position keeps, and comes to, when one of its squares is written.
use Rattle.std.proofs.Common.{◌≡◌, ◌<◌, ◌==◌, ℕ, List, Option, length, slice_set, if◌then◌else◌, ◌+◌, arith, sym, ap, subst, ◌∙◌, inl, inr}
use Rattle.bit_boards.specs.declared.piece.Piece.{Piece}
use Rattle.bit_boards.specs.declared.piece.Side.{Side}
use Rattle.board_core.specs.declared.code.Code.{Code}
use Rattle.board_core.specs.declared.sets.Sets.{Sets}
use Rattle.board_core.specs.Board.{Board, piece_at, with_cell, ChangesCell}
use Rattle.board_core.specs.Kept.{IsKept}
use Rattle.board_core.specs.Key.{code_of}
use Rattle.board_core.specs.Code.{cells_of}
use Rattle.board_core.specs.Sets.{AreSetsOf}
use Rattle.std.proofs.lemmas.Bool.{cases_eq}
use Rattle.board_core.proofs.Cells.{changes_cell, piece_at-set_same, piece_at-set_other}
use Rattle.board_core.proofs.Packed.{written_cells, as_many_cells}
use Rattle.board_core.proofs.Squares.{same_squares, written}

-- the board of these parts
abbrev pub board_in : List Code → List ℕ → List ℕ → Side → Board
board_in codes black white side = record { cells = cells_of codes; black = black; white = white; side = side }

-- the board after a code was written
pub board_written : (codes : List Code) (black white : List ℕ) (side : Side) (i : ℕ) (code : Code) (cell : Option Piece) → code.number ≡ code_of cell
    → board_in (slice_set codes i code) black white side ≡ with_cell (board_in codes black white side) i cell
board_written codes black white side i code cell h = λ j. record { cells = written_cells codes i code cell h j; black = black; white = white; side = side }

pub kept_written : (codes : List Code) (black white : List ℕ) (side : Side) (i : ℕ) (code : Code) (cell : Option Piece) → code.number ≡ code_of cell
    → IsKept (with_cell (board_in codes black white side) i cell) → IsKept (board_in (slice_set codes i code) black white side)
kept_written codes black white side i code cell h kept = subst IsKept (sym (board_written codes black white side i code cell h)) kept

pub sets_written : (codes : List Code) (i : ℕ) (code : Code) (cell : Option Piece) (old new : Sets) → code.number ≡ code_of cell → i < length codes
    → AreSetsOf old (piece_at (cells_of codes))
    → ((at : ℕ → Option Piece) → AreSetsOf old at → AreSetsOf new (λ s. if s == i then cell else at s))
    → AreSetsOf new (piece_at (cells_of (slice_set codes i code)))
sets_written codes i code cell old new h within known follow =
    same_squares new _ _
    (λ s. written (cells_of codes) i cell (omega (arith, within, as_many_cells codes)) s
    ∙ sym (ap (λ (cells : List (Option Piece)). piece_at cells s) (written_cells codes i code cell h)))
    (follow (piece_at (cells_of codes)) known)

pub position_written : (codes : List Code) (black white : List ℕ) (side : Side) (i : ℕ) (code : Code) (cell : Option Piece) (now : Board)
    → code.number ≡ code_of cell → board_in codes black white side ≡ now
    → board_in (slice_set codes i code) black white side ≡ with_cell now i cell
position_written codes black white side i code cell now h view =
    subst (λ (b : Board). board_in (slice_set codes i code) black white side ≡ with_cell b i cell) view
    (board_written codes black white side i code cell h)

pub changes_written : (codes : List Code) (black white : List ℕ) (side : Side) (i : ℕ) (code : Code) (cell : Option Piece) (now : Board)
    → code.number ≡ code_of cell → i < length codes → board_in codes black white side ≡ now
    → ChangesCell now (board_in (slice_set codes i code) black white side) i cell
changes_written codes black white side i code cell now h within view =
    let before = board_in codes black white side in
    subst (λ (b : Board). ChangesCell b (board_in (slice_set codes i code) black white side) i cell) view
    (subst (λ (b : Board). ChangesCell before b i cell) (sym (board_written codes black white side i code cell h))
    (changes_cell before i cell (omega (arith, within, as_many_cells codes))))

-- one code more is that of its cell
pub codes_more : (codes : List Code) (cells : List (Option Piece)) (n : ℕ) (code : Code) (cell : Option Piece) → code.number ≡ code_of cell
    → n < length codes → cell ≡ piece_at cells n → ((s : ℕ) → s < n → piece_at (cells_of codes) s ≡ piece_at cells s)
    → (s : ℕ) → s < n + 1 → piece_at (cells_of (slice_set codes n code)) s ≡ piece_at cells s
codes_more codes cells n code cell h within is before s low =
    ap (λ (x : List (Option Piece)). piece_at x s) (written_cells codes n code cell h) ∙ elim (cases_eq s n) [
      | inl e ↦ ap (piece_at (slice_set (cells_of codes) n cell)) e ∙ (piece_at-set_same (cells_of codes) n cell (omega (arith, within, as_many_cells codes))
          ∙ (is ∙ sym (ap (piece_at cells) e)))
      | inr differ ↦ piece_at-set_other (cells_of codes) n s cell differ ∙ before s (omega arith)
    ]
