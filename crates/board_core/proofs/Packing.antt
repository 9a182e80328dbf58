use Rattle.std.proofs.Common.{◌≡◌, ◌<◌, ◌≤◌, ◌+◌, ◌-◌, ◌*◌, ◌%◌, ◌^◌, ℕ, zero, suc, List, [], ◌∷◌, Option, Some, None, Bool, true, false, length, take, drop, arith, refl, ap, sym, subst, ◌∙◌, drop-cons, add-one, length-drop}
use Rattle.std.proofs.lemmas.Nat.{pow_pos, pow-add}
use Rattle.std.proofs.lemmas.List.{length-take, take_all}
use Rattle.bit_boards.specs.declared.piece.Piece.{Piece}
use Rattle.bit_boards.specs.declared.piece.Kind.{Kind}
use Rattle.bit_boards.specs.declared.piece.Kind.TheVariants.{Pawn, Lance, Knight, Silver, Gold, Bishop, Rook, King}
use Rattle.bit_boards.specs.declared.piece.Side.{Side}
use Rattle.bit_boards.specs.declared.piece.Side.TheVariants.{Black, White}
use Rattle.board_core.specs.Board.{piece_at}
use Rattle.board_core.specs.Key.{kind_code, side_code, code_of, packed_cells}
use Rattle.board_core.proofs.Cells.{piece_at-get_or}

pub kind_code_small : (p : Bool) (k : Kind) → kind_code p k ≤ 14
kind_code_small false Pawn = omega arith
kind_code_small false Lance = omega arith
kind_code_small false Knight = omega arith
kind_code_small false Silver = omega arith
kind_code_small false Gold = omega arith
kind_code_small false Bishop = omega arith
kind_code_small false Rook = omega arith
kind_code_small false King = omega arith
kind_code_small true Pawn = omega arith
kind_code_small true Lance = omega arith
kind_code_small true Knight = omega arith
kind_code_small true Silver = omega arith
kind_code_small true Gold = omega arith
kind_code_small true Bishop = omega arith
kind_code_small true Rook = omega arith
kind_code_small true King = omega arith

side_code_small : (s : Side) → side_code s ≤ 14
side_code_small Black = omega arith
side_code_small White = omega arith

-- a code takes five bits
pub code_small : (cell : Option Piece) → code_of cell < 32
code_small None = omega arith
code_small (Some piece) = omega (arith, kind_code_small piece.promoted piece.kind, side_code_small piece.side)

-- five bits more
pub five_more : (n : ℕ) → 2 ^ (5 * suc n) ≡ 32 * 2 ^ (5 * n)
five_more n = ap (λ (m : ℕ). 2 ^ m) five ∙ pow-add 2 5 (5 * n)
  where
    five : 5 * suc n ≡ 5 + 5 * n
    five = omega arith

-- as many squares take five times as many bits
pub packed_below : (cells : List (Option Piece)) (n : ℕ) → length cells ≤ n → packed_cells cells < 2 ^ (5 * n)
packed_below [] n h = pow_pos (5 * n)
packed_below (cell ∷ cells) zero h = absurd (omega arith)
packed_below (cell ∷ cells) (suc n) h = omega (arith, five_more n, code_small cell, packed_below cells n (omega arith))

-- one square more at the front
pub packed_cells-step : (cells : List (Option Piece)) (i n : ℕ) → i < length cells
    → packed_cells (take (n + 1) (drop i cells)) ≡ code_of (piece_at cells i) + 32 * packed_cells (take n (drop (i + 1) cells))
packed_cells-step cells i n h = rw (add-one n, add-one i, drop-cons cells i None, piece_at-get_or cells i) refl

-- the squares of a word but the last fit in 55 bits
pub packed_fits : (cells : List (Option Piece)) (i n : ℕ) → n ≤ 11 → packed_cells (take n (drop i cells)) < 36028797018963968
packed_fits cells i n h = packed_below (take n (drop i cells)) 11 (omega (arith, length-take n (drop i cells)))

-- the last word has nine squares
pub last_word : (cells : List (Option Piece)) → length cells ≡ 81 → take 9 (drop 72 cells) ≡ take 12 (drop 72 cells)
last_word cells long =
    take_all 9 (drop 72 cells) (omega (arith, length-drop 72 cells)) ∙ sym (take_all 12 (drop 72 cells) (omega (arith, length-drop 72 cells)))

-- one square more, and a number that has room for it
pub word_step : (cells : List (Option Piece)) (to step word code : ℕ) → length cells ≡ 81 → to ≤ 81 → step < to → step < 12
    → word ≡ packed_cells (take step (drop (to - step) cells)) → code ≡ code_of (piece_at cells (to - 1 - step))
    → code + word * 32 % 18446744073709551616 ≡ packed_cells (take (step + 1) (drop (to - (step + 1)) cells))
word_step cells to step word code long within below few e at =
    let fits = packed_fits cells (to - step) step (omega arith) in
    let front = packed_cells-step cells (to - 1 - step) step (omega arith) in
    let here : to - 1 - step ≡ to - (step + 1) = omega arith in
    let next : to - 1 - step + 1 ≡ to - step = omega arith in
    let shown = rw next at front in
    let moved = subst (λ (i : ℕ). packed_cells (take (step + 1) (drop i cells)) ≡ code_of (piece_at cells (to - 1 - step)) + 32 * packed_cells (take step (drop (to - step) cells)))
    here shown in
    omega arith
