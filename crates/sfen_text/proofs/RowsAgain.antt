-- What is written for the board is read as this board.
use Rattle.std.proofs.Common.{◌≡◌, inl, inr, ℕ, zero, suc, ◌+◌, ◌-◌, ◌*◌, ◌/◌, ◌%◌, ◌<◌, ◌≤◌, true, false, eqb, List, [], ◌∷◌, ◌++◌, length, get_or, Option, Some, None, Ok, refl, sym, ap, ◌∙◌, append_assoc, arith}
use Rattle.std.specs.Prelude.{replicate, nat_le, nat_lt, ◌&&◌}
use Rattle.std.specs.List.{flat_map, range_with_len}
use Rattle.std.proofs.lemmas.Bool.{lt-ltb}
use Rattle.std.proofs.lemmas.Bool.Decides.{eqb_tells}
use Rattle.std.proofs.lemmas.List.{append-nil, length-append, get_or_append_left, get_or-append_right}
use Rattle.board_laws.proofs.Cells.{piece_at_is}
use Rattle.bit_boards.specs.declared.piece.Piece.{Piece}
use Rattle.bit_boards.specs.Square.{square_on}
use Rattle.board_core.specs.Board.{piece_at}
use Rattle.sfen_text.specs.declared.squares.Sign.TheVariants.{Run}
use Rattle.sfen_text.specs.Pieces.{piece_text}
use Rattle.sfen_text.specs.Spelling.{row_from, cells_of_row, run_text, row_text, slashed_row, board_text}
use Rattle.sfen_text.specs.Signs.{plain_sign, signs, in_front, squares, reading_place, cells_of}
use Rattle.sfen_text.proofs.Filling.{signs_one, in_front_twice, in_front_none, le_passes, all_cells}
use Rattle.sfen_text.proofs.PiecesAgain.{piece_sign}

pub run_sign : (n : ℕ) → 1 ≤ n → n ≤ 9 → plain_sign (48 + n) ≡ Run n
run_sign n from to =
    let slash : eqb (48 + n) 47 ≡ false = elim (eqb_tells (48 + n) 47) [ inl t ↦ absurd (omega (arith, t.1)) | inr f ↦ f.0 ] in
    let digit : (nat_le 49 (48 + n) && nat_le (48 + n) 57) ≡ true = rw (le_passes 49 (48 + n) (omega arith), le_passes (48 + n) 57 (omega arith)) refl in
    let value : 48 + n - 48 ≡ n = omega arith in
    rw (slash, digit, value) refl

pub run_again : (run left further_rows end at : ℕ) (text : List ℕ) → run ≤ left → run ≤ 9
    → squares end further_rows left (signs at (run_text run ++ text)) ≡ in_front (replicate run None) (squares end further_rows (left - run) (signs (at + length (run_text run)) text))
unfolding squares
run_again zero left further_rows end at text le nine =
    let a : left - 0 ≡ left = omega arith in
    let b : at + 0 ≡ at = omega arith in
    rw (a, b) (sym (in_front_none (squares end further_rows left (signs at text))))
run_again (suc n) left further_rows end at text le nine =
    let one = signs_one at (48 + suc n) text (inr (λ e. omega arith)) in
    rw (one, run_sign (suc n) (omega arith) nine, le_passes (suc n) left le) refl

pub piece_again : (p : Piece) (left further_rows end at : ℕ) (text : List ℕ) → 0 < left
    → squares end further_rows left (signs at (piece_text p ++ text)) ≡ in_front (Some p ∷ []) (squares end further_rows (left - 1) (signs (at + length (piece_text p)) text))
unfolding squares
piece_again p left further_rows end at text lt = let some : nat_lt 0 left ≡ true = lt-ltb 0 left lt in rw (piece_sign p at text, some) refl

one_more_none : (run : ℕ) (xs : List (Option Piece)) → replicate (run + 1) None ++ xs ≡ replicate run None ++ None ∷ xs
one_more_none zero xs = refl
one_more_none (suc run) xs = let e : suc run + 1 ≡ suc (run + 1) = omega arith in rw e (ap (λ (ys : List (Option Piece)). None ∷ ys) (one_more_none run xs))

pub row_again : (xs : List (Option Piece)) (run left further_rows end at : ℕ) (text : List ℕ) → left ≡ run + length xs → left ≤ 9
    → squares end further_rows left (signs at (row_text run xs ++ text)) ≡ in_front (replicate run None ++ xs) (squares end further_rows 0 (signs (at + length (row_text run xs)) text))
row_again [] run left further_rows end at text e nine =
    let last : left - run ≡ 0 = omega arith in
    run_again run left further_rows end at text (omega arith) (omega arith) ∙ rw (last, append-nil (replicate {A = Option Piece} run None)) refl
row_again (None ∷ xs) run left further_rows end at text e nine =
    row_again xs (run + 1) left further_rows end at text (omega arith) nine ∙ ap (λ (ys : List (Option Piece)). in_front ys (squares end further_rows 0 (signs (at + length (row_text (run + 1) xs)) text))) (one_more_none run xs)
row_again (Some p ∷ xs) run left further_rows end at text e nine =
    let after = left - run in
    let here = at + length (run_text run) in
    let there = here + length (piece_text p) in
    let regroup : row_text run (Some p ∷ xs) ++ text ≡ run_text run ++ (piece_text p ++ (row_text 0 xs ++ text)) = simp append_assoc in
    let a = run_again run left further_rows end at (piece_text p ++ (row_text 0 xs ++ text)) (omega arith) (omega arith) in
    let b = piece_again p after further_rows end here (row_text 0 xs ++ text) (omega arith) in
    let d = row_again xs 0 (after - 1) further_rows end there text (omega arith) (omega arith) in
    let place : at + length (row_text run (Some p ∷ xs)) ≡ there + length (row_text 0 xs) = omega (arith, length-append (run_text run ++ piece_text p) (row_text 0 xs), length-append (run_text run) (piece_text p)) in
    rw (regroup, a, b, d, place) (ap (in_front (replicate run None)) (in_front_twice (Some p ∷ []) xs (squares end further_rows 0 (signs (there + length (row_text 0 xs)) text))) ∙ in_front_twice (replicate run None) (Some p ∷ xs) (squares end further_rows 0 (signs (there + length (row_text 0 xs)) text)))

row_from_size : (cells : List (Option Piece)) (row_number n : ℕ) → length (row_from cells row_number n) ≡ n
row_from_size cells row_number zero = refl
row_from_size cells row_number (suc n) = ap suc (row_from_size cells row_number n)

pub row_size : (cells : List (Option Piece)) (row_number : ℕ) → length (cells_of_row cells row_number) ≡ 9
unfolding cells_of_row
row_size cells row_number = row_from_size cells row_number 9

whole_row : (cells : List (Option Piece)) (row_number further_rows end at : ℕ) (text : List ℕ)
    → squares end further_rows 9 (signs at (row_text 0 (cells_of_row cells row_number) ++ text)) ≡ in_front (cells_of_row cells row_number) (squares end further_rows 0 (signs (at + length (row_text 0 (cells_of_row cells row_number))) text))
whole_row cells row_number further_rows end at text = row_again (cells_of_row cells row_number) 0 9 further_rows end at text (omega (arith, row_size cells row_number)) (omega arith)

pub rows_again : (n : ℕ) (cells : List (Option Piece)) (row_number end at : ℕ)
    → squares end n 0 (signs at (flat_map (slashed_row cells) (range_with_len row_number n))) ≡ Ok (flat_map (cells_of_row cells) (range_with_len row_number n))
unfolding squares signs
rows_again zero cells row_number end at = refl
rows_again (suc n) cells row_number end at =
    let rest = flat_map (slashed_row cells) (range_with_len (row_number + 1) n) in
    let one = signs_one at 47 (row_text 0 (cells_of_row cells row_number) ++ rest) (inr (λ e. omega arith)) in
    let less : suc n - 1 ≡ n = omega arith in
    let some : nat_lt 0 (suc n) ≡ true = lt-ltb 0 (suc n) (omega arith) in
    rw (one, some, less, whole_row cells row_number n end (at + 1) rest, rows_again n cells (row_number + 1) end (at + 1 + length (row_text 0 (cells_of_row cells row_number)))) refl

pub board_again : (cells : List (Option Piece)) (end at : ℕ) → squares end 8 9 (signs at (board_text cells)) ≡ Ok (flat_map (cells_of_row cells) (range_with_len 1 9))
board_again cells end at =
    rw (whole_row cells 1 8 end at (flat_map (slashed_row cells) (range_with_len 2 8)), rows_again 8 cells 2 end (at + length (row_text 0 (cells_of_row cells 1)))) refl

pub at_file : (n c : ℕ) (cells : List (Option Piece)) (row_number : ℕ) → c < n → get_or (row_from cells row_number n) c None ≡ piece_at cells (square_on (n - c) row_number)
at_file zero c cells row_number lt = absurd (omega arith)
at_file (suc n) zero cells row_number lt = let e : suc n - 0 ≡ suc n = omega arith in rw e refl
at_file (suc n) (suc c) cells row_number lt = let e : suc n - suc c ≡ n - c = omega arith in rw e (at_file n c cells row_number (omega arith))

at_row_number : (n r c : ℕ) (cells : List (Option Piece)) (row_number : ℕ) → r < n → c < 9 → get_or (flat_map (cells_of_row cells) (range_with_len row_number n)) (9 * r + c) None ≡ get_or (cells_of_row cells (row_number + r)) c None
at_row_number zero r c cells row_number lt nine = absurd (omega arith)
at_row_number (suc n) zero c cells row_number lt nine =
    let e : 9 * 0 + c ≡ c = omega arith in
    let f : row_number + 0 ≡ row_number = omega arith in
    rw (e, f) (get_or_append_left (cells_of_row cells row_number) (flat_map (cells_of_row cells) (range_with_len (row_number + 1) n)) None c (omega (arith, row_size cells row_number)))
at_row_number (suc n) (suc r) c cells row_number lt nine =
    let e : 9 * suc r + c - 9 ≡ 9 * r + c = omega arith in
    let f : row_number + 1 + r ≡ row_number + suc r = omega arith in
    get_or-append_right (cells_of_row cells row_number) (flat_map (cells_of_row cells) (range_with_len (row_number + 1) n)) 9 (9 * suc r + c) None (row_size cells row_number) (omega arith)
    ∙ rw e (at_row_number n r c cells (row_number + 1) (omega arith) nine) ∙ ap (λ (k : ℕ). get_or (cells_of_row cells k) c None) f

pub cells_again : (cells : List (Option Piece)) → length cells ≡ 81 → cells_of (flat_map (cells_of_row cells) (range_with_len 1 9)) ≡ cells
unfolding cells_of_row
cells_again cells size = sym (all_cells cells read size each) where
  read : List (Option Piece)
  read = flat_map (cells_of_row cells) (range_with_len 1 9)

  each : (k : ℕ) → k < 81 → get_or cells k None ≡ piece_at read (reading_place k)
  each k lt =
      let square : square_on (9 - (8 - k / 9)) (1 + k % 9) ≡ k = omega arith in
      sym (piece_at_is read (reading_place k) ∙ at_row_number 9 (k % 9) (8 - k / 9) cells 1 (omega arith) (omega arith) ∙ at_file 9 (8 - k / 9) cells (1 + k % 9) (omega arith) ∙ ap (λ (s : ℕ). piece_at cells s) square ∙ piece_at_is cells k)
