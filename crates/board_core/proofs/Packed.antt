-- A piece's code stands for the piece.
use Rattle.std.proofs.Common.{◌≡◌, ◌<◌, ℕ, zero, suc, List, [], ◌∷◌, slice_set, Option, length, get_or, arith, ap, refl, ◌∙◌}
use Rattle.std.proofs.lemmas.List.{map-set}
use Rattle.bit_boards.specs.declared.piece.Piece.{Piece}
use Rattle.board_core.specs.Key.{code_of}
use Rattle.board_core.specs.declared.code.Code.{Code}
use Rattle.board_core.specs.Board.{piece_at}
use Rattle.board_core.specs.Code.{cell_in, cells_of}
use Rattle.board_core.specs.Packed.{code_back, code_below}
use Rattle.board_core.proofs.KeyExact.{cell_exact}

-- what a code stands for has that code, and nothing else has
pub cell_back : (cell : Option Piece) → cell_in (code_of cell) ≡ cell
cell_back cell = cell_exact (cell_in (code_of cell)) cell (code_back (code_of cell) (code_below cell))

-- as many codes as squares
pub as_many_cells : (codes : List Code) → length (cells_of codes) ≡ length codes
as_many_cells [] = refl
as_many_cells (code ∷ codes) = ap suc (as_many_cells codes)

-- the cells after a code was written
pub written_cells : (codes : List Code) (i : ℕ) (code : Code) (cell : Option Piece) → code.number ≡ code_of cell
    → cells_of (slice_set codes i code) ≡ slice_set (cells_of codes) i cell
written_cells codes i code cell h = map-set (λ (c : Code). cell_in c.number) codes i code
    ∙ ap (λ (v : Option Piece). slice_set (cells_of codes) i v) (ap cell_in h ∙ cell_back cell)

-- what stands where a code is read
pub piece_at_code : (codes : List Code) (s : ℕ) (d : Code) → s < length codes → piece_at (cells_of codes) s ≡ cell_in (get_or codes s d).number
piece_at_code [] s d h = absurd (omega arith)
piece_at_code (c ∷ codes) zero d h = refl
piece_at_code (c ∷ codes) (suc s) d h = piece_at_code codes s d (omega arith)

-- a cell that is read
pub read_cell : (cells : List (Option Piece)) (s : ℕ) (x d : Option Piece) → s < length cells → x ≡ get_or cells s d → x ≡ piece_at cells s
read_cell [] s x d h e = absurd (omega arith)
read_cell (c ∷ cells) zero x d h e = e
read_cell (c ∷ cells) (suc s) x d h e = read_cell cells s x d (omega arith) e

-- as many cells that are the same one by one are the same
pub same_cells : (xs ys : List (Option Piece)) → length xs ≡ length ys → ((s : ℕ) → s < length xs → piece_at xs s ≡ piece_at ys s) → xs ≡ ys
same_cells [] [] long same = refl
same_cells [] (y ∷ ys) long same = absurd (omega arith)
same_cells (x ∷ xs) [] long same = absurd (omega arith)
same_cells (x ∷ xs) (y ∷ ys) long same =
    let first : x ≡ y = same 0 (omega arith) in
    let rest = same_cells xs ys (omega arith) (λ s h. same (suc s) (omega arith)) in
    ap (λ (z : Option Piece). z ∷ xs) first ∙ ap (λ (zs : List (Option Piece)). y ∷ zs) rest
