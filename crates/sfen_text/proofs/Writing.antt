-- What has been written, and what is still to be written.
use Rattle.std.proofs.Common.{◌≡◌, ℕ, zero, suc, ◌+◌, ◌-◌, ◌<◌, ◌≤◌, List, [], ◌∷◌, ◌++◌, length, Option, Some, refl, sym, ap, ◌∙◌, append_assoc, arith}
use Rattle.std.specs.List.{flat_map, range_with_len}
use Rattle.std.proofs.lemmas.List.{append-nil, length-append}
use Rattle.std.proofs.lemmas.List.Concat.{flat_map-append}
use Rattle.bit_boards.specs.declared.piece.Piece.{Piece}
use Rattle.bit_boards.specs.Square.{square_on}
use Rattle.board_core.specs.Board.{piece_at}
use Rattle.sfen_text.specs.Pieces.{piece_text}
use Rattle.sfen_text.specs.Spelling.{row_from, run_text, row_text, or_dash}

pub row_from_more : (cells : List (Option Piece)) (row_number n : ℕ) → 0 < n → row_from cells row_number n ≡ piece_at cells (square_on n row_number) ∷ row_from cells row_number (n - 1)
row_from_more cells row_number zero lt = absurd (omega arith)
row_from_more cells row_number (suc m) lt = let e : suc m - 1 ≡ m = omega arith in ap (λ (k : ℕ). piece_at cells (square_on (suc m) row_number) ∷ row_from cells row_number k) (sym e)

range_more : (a n j : ℕ) → a + n ≡ j → range_with_len a (n + 1) ≡ range_with_len a n ++ j ∷ []
range_more a zero j e = let same : a ≡ j = omega arith in ap (λ (k : ℕ). k ∷ []) same
range_more a (suc n) j e =
    let again = range_more (a + 1) n j (omega arith) in
    let e : suc n + 1 ≡ suc (n + 1) = omega arith in
    rw e (ap (λ (ks : List ℕ). a ∷ ks) again)

pub rows_more : (f : ℕ → List ℕ) (row_number : ℕ) → 2 ≤ row_number → flat_map f (range_with_len 2 (row_number + 1 - 2)) ≡ flat_map f (range_with_len 2 (row_number - 2)) ++ f row_number
rows_more f row_number le =
    let e : row_number + 1 - 2 ≡ (row_number - 2) + 1 = omega arith in
    rw e (ap (flat_map f) (range_more 2 (row_number - 2) row_number (omega arith)) ∙ flat_map-append f (range_with_len 2 (row_number - 2)) (row_number ∷ []) ∙ ap (λ (t : List ℕ). flat_map f (range_with_len 2 (row_number - 2)) ++ t) (append-nil (f row_number)))

-- A dash is written where nothing was.
pub dash_for_none : (old new text : List ℕ) → new ≡ old ++ text → length new ≡ length old → new ++ 45 ∷ [] ≡ old ++ or_dash text
dash_for_none old new [] e len = rw e (ap (λ (t : List ℕ). t ++ 45 ∷ []) (append-nil old))
dash_for_none old new (x ∷ text) e len = absurd (omega (arith, length-append old (x ∷ text), ap length e))

pub no_dash_for_some : (old new text : List ℕ) → new ≡ old ++ text → (length new ≡ length old → ⊥) → new ≡ old ++ or_dash text
no_dash_for_some old new [] e apart = absurd (apart (ap length e ∙ ap length (append-nil old)))
no_dash_for_some old new (x ∷ text) e apart = e

pub all_rows : (f : ℕ → List ℕ) (old row out : List ℕ) (row_number : ℕ) → 10 ≤ row_number → row_number ≤ 10 → out ≡ (old ++ row) ++ flat_map f (range_with_len 2 (row_number - 2)) → out ≡ old ++ (row ++ flat_map f (range_with_len 2 8))
all_rows f old row out row_number le ge e =
    let last : row_number - 2 ≡ 8 = omega arith in
    rw last at e ∙ append_assoc old row (flat_map f (range_with_len 2 8))

-- A piece comes behind the run before it.
pub piece_put : (cells : List (Option Piece)) (row_number n run : ℕ) (piece : Piece) (out between new total : List ℕ) → 0 < n
    → piece_at cells (square_on n row_number) ≡ Some piece → out ++ row_text run (row_from cells row_number n) ≡ total
    → between ≡ out ++ run_text run → new ≡ between ++ piece_text piece
    → new ++ row_text 0 (row_from cells row_number (n - 1)) ≡ total
piece_put cells row_number n run piece out between new total lt at before e h =
    let row = row_from_more cells row_number n lt in
    let text : row_text run (row_from cells row_number n) ≡ run_text run ++ piece_text piece ++ row_text 0 (row_from cells row_number (n - 1)) = rw (row, at) refl in
    let whole = rw text at before in
    rw (h, e) (simp append_assoc (simp append_assoc at whole))
