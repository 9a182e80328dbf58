-- A board's codes and sets of squares, and that a position of this board has these. Only the model
-- of a position uses it.
use Rattle.std.proofs.Common.{◌≡◌, ◌<◌, ◌+◌, ◌==◌, ℕ, List, [], ◌∷◌, Option, Some, None, Bool, true, false, map, refl, arith, eqb-true}
use Rattle.std.proofs.lemmas.Bool.{agree_below_at}
use mathlib.Core.HLevel.{is_prop→PathP}
use Rattle.std.proofs.Math.Bridge.{le_prop}
use Rattle.bit_boards.specs.declared.piece.Piece.{Piece}
use Rattle.bit_boards.specs.declared.piece.Side.{Side}
use Rattle.bit_boards.specs.declared.piece.Side.TheVariants.{Black, White}
use Rattle.bit_boards.proofs.Sets.{mask_where, mask_back}
use Rattle.board_core.specs.declared.code.Code.{Code}
use Rattle.board_core.specs.declared.sets.Sets.{Sets}
use Rattle.board_core.specs.Board.{piece_at}
use Rattle.board_core.specs.Key.{kind_code, side_code, code_of}
use Rattle.board_core.specs.Code.{cell_in, cells_of}
use Rattle.board_core.specs.Sets.{AreSetsOf, is_of_side, is_king, is_pawn, is_slider}
use Rattle.bit_boards.specs.declared.piece.Kind.{Kind}
use Rattle.bit_boards.specs.declared.piece.Kind.TheVariants.{Pawn, Lance, Knight, Silver, Gold, Bishop, Rook, King}

-- A code is that of what it stands for.
pub code_back : (n : ℕ) → n < 29 → code_of (cell_in n) ≡ n
code_back n h = eqb-true _ _ (agree_below_at (λ j. code_of (cell_in j) == j) (λ _. true) 29 n refl h)

kind_code_below : (promoted : Bool) (kind : Kind) → kind_code promoted kind < 15
kind_code_below false Pawn = omega arith
kind_code_below false Lance = omega arith
kind_code_below false Knight = omega arith
kind_code_below false Silver = omega arith
kind_code_below false Gold = omega arith
kind_code_below false Bishop = omega arith
kind_code_below false Rook = omega arith
kind_code_below false King = omega arith
kind_code_below true Pawn = omega arith
kind_code_below true Lance = omega arith
kind_code_below true Knight = omega arith
kind_code_below true Silver = omega arith
kind_code_below true Gold = omega arith
kind_code_below true Bishop = omega arith
kind_code_below true Rook = omega arith
kind_code_below true King = omega arith

side_below : (side : Side) (code : ℕ) → code < 15 → code + side_code side < 29
side_below Black code h = omega arith
side_below White code h = omega arith

-- Codes are below 29.
pub code_below : (cell : Option Piece) → code_of cell < 29
code_below None = omega arith
code_below (Some piece) = side_below piece.side (kind_code piece.promoted piece.kind) (kind_code_below piece.promoted piece.kind)

same_code : (a b : Code) → a.number ≡ b.number → a ≡ b
same_code a b h = λ i. record { number = h i; known = is_prop→PathP (λ j. h j < 29) (λ j. le_prop) a.known b.known i }

-- The code of what a square holds.
abbrev pub code_for : Option Piece → Code
code_for cell = record { number = code_of cell; known = code_below cell }

-- The codes of cells.
abbrev pub codes_for : List (Option Piece) → List Code
codes_for cells = map code_for cells

-- The sets of squares of cells.
abbrev pub sets_for : List (Option Piece) → Sets
sets_for cells = record {
  black = mask_where (λ s. is_of_side Black (piece_at cells s));
  white = mask_where (λ s. is_of_side White (piece_at cells s));
  kings = mask_where (λ s. is_king (piece_at cells s));
  pawns = mask_where (λ s. is_pawn (piece_at cells s));
  sliders = mask_where (λ s. is_slider (piece_at cells s));
}

-- Codes are those of what they stand for.
pub codes_back : (codes : List Code) → codes_for (cells_of codes) ≡ codes
codes_back [] = refl
codes_back (code ∷ codes) = λ i. same_code (code_for (cell_in code.number)) code (code_back code.number code.known) i ∷ codes_back codes i

-- Sets of squares that are those of cells are the ones made of these cells.
pub sets_back : (sets : Sets) (cells : List (Option Piece)) → AreSetsOf sets (piece_at cells) → sets_for cells ≡ sets
sets_back sets cells known = λ i. record {
  black = mask_back sets.black (λ s. is_of_side Black (piece_at cells s)) known.black i;
  white = mask_back sets.white (λ s. is_of_side White (piece_at cells s)) known.white i;
  kings = mask_back sets.kings (λ s. is_king (piece_at cells s)) known.kings i;
  pawns = mask_back sets.pawns (λ s. is_pawn (piece_at cells s)) known.pawns i;
  sliders = mask_back sets.sliders (λ s. is_slider (piece_at cells s)) known.sliders i;
}
