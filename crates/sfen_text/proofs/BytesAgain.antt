-- Which bytes are written.
use Rattle.std.proofs.Common.{◌≡◌, ◌≢◌, ℕ, zero, suc, ◌+◌, ◌/◌, ◌%◌, ◌≤◌, Bool, true, false, cond, eqb, ltb, List, [], ◌∷◌, ◌++◌, length, Option, Some, None, refl, arith}
use Rattle.std.specs.List.{flat_map, range_with_len}
use Rattle.std.proofs.lemmas.Bool.{ltb-true}
use Rattle.std.proofs.lemmas.List.{length-append}
use Rattle.bit_boards.specs.declared.piece.Kind.{Kind}
use Rattle.bit_boards.specs.declared.piece.Side.{Side}
use Rattle.bit_boards.specs.declared.piece.Piece.{Piece}
use Rattle.bit_boards.specs.declared.piece.Kind.TheVariants.{King, Rook, Bishop, Gold, Silver, Knight, Lance, Pawn}
use Rattle.board_core.specs.Board.{hand_count}
use Rattle.sfen_text.specs.Pieces.{letter_of, plus_text, piece_text}
use Rattle.sfen_text.specs.Spelling.{cells_of_row, run_text, row_text, slashed_row, board_text, count_text, held_text, hand_text}
use Rattle.sfen_text.proofs.PiecesAgain.{IsPlain, letter_plain}
use Rattle.sfen_text.proofs.RowsAgain.{row_size}
use Rattle.sfen_text.proofs.HandsAgain.{IsSmall}

abbrev pub ArePlain : List ℕ → Type 0
ArePlain [] = Unit {0}
ArePlain (x ∷ xs) = IsPlain x × ArePlain xs

pub both_plain : (xs ys : List ℕ) → ArePlain xs → ArePlain ys → ArePlain (xs ++ ys)
both_plain [] ys p q = q
both_plain (x ∷ xs) ys p q = (p.0, both_plain xs ys p.1 q)

pub low_plain : (n : ℕ) → 43 ≤ n → n ≤ 58 → n ≢ 45 → IsPlain n
low_plain n from to dash = record { above = from; not_dash = dash; not_o = λ e. omega arith; not_f = λ e. omega arith }

pub run_plain : (run : ℕ) → run ≤ 9 → ArePlain (run_text run)
run_plain zero le = tt
run_plain (suc n) le = (low_plain (48 + suc n) (omega arith) (omega arith) (λ e. omega arith), tt)

plus_plain : (b : Bool) → ArePlain (plus_text b)
plus_plain true = (low_plain 43 (omega arith) (omega arith) (λ e. omega arith), tt)
plus_plain false = tt

pub piece_plain : (p : Piece) → ArePlain (piece_text p)
piece_plain p = both_plain (plus_text p.promoted) (letter_of p.side p.kind ∷ []) (plus_plain p.promoted) ((letter_plain p.side p.kind).0, tt)

row_plain : (xs : List (Option Piece)) (run : ℕ) → run + length xs ≤ 9 → ArePlain (row_text run xs)
row_plain [] run le = run_plain run (omega arith)
row_plain (None ∷ xs) run le = row_plain xs (run + 1) (omega arith)
row_plain (Some p ∷ xs) run le = both_plain (run_text run ++ piece_text p) (row_text 0 xs) (both_plain (run_text run) (piece_text p) (run_plain run (omega arith)) (piece_plain p)) (row_plain xs 0 (omega arith))

rows_plain : (n row_number : ℕ) (cells : List (Option Piece)) → ArePlain (flat_map (slashed_row cells) (range_with_len row_number n))
rows_plain zero row_number cells = tt
rows_plain (suc n) row_number cells = both_plain (slashed_row cells row_number) (flat_map (slashed_row cells) (range_with_len (row_number + 1) n))
    (low_plain 47 (omega arith) (omega arith) (λ e. omega arith), row_plain (cells_of_row cells row_number) 0 (omega (arith, row_size cells row_number))) (rows_plain n (row_number + 1) cells)

pub board_plain : (cells : List (Option Piece)) → ArePlain (board_text cells)
board_plain cells = both_plain (row_text 0 (cells_of_row cells 1)) (flat_map (slashed_row cells) (range_with_len 2 8)) (row_plain (cells_of_row cells 1) 0 (omega (arith, row_size cells 1))) (rows_plain 8 2 cells)

rows_long : (n row_number : ℕ) (cells : List (Option Piece)) → n ≤ length (flat_map (slashed_row cells) (range_with_len row_number n))
rows_long zero row_number cells = omega arith
rows_long (suc n) row_number cells = omega (arith, rows_long n (row_number + 1) cells, length-append (slashed_row cells row_number) (flat_map (slashed_row cells) (range_with_len (row_number + 1) n)))

pub board_long : (cells : List (Option Piece)) → 2 ≤ length (board_text cells)
board_long cells = omega (arith, rows_long 8 2 cells, length-append (row_text 0 (cells_of_row cells 1)) (flat_map (slashed_row cells) (range_with_len 2 8)))

count_plain : (n : ℕ) → n ≤ 18 → ArePlain (count_text n)
count_plain n le = go (eqb n 1) (ltb n 10) refl where
  go : (a b : Bool) → ltb n 10 ≡ b → ArePlain (cond a [] (cond b ((48 + n) ∷ []) ((48 + n / 10) ∷ (48 + n % 10) ∷ [])))
  go true b e = tt
  go false true e = (low_plain (48 + n) (omega arith) (omega (arith, ltb-true n 10 e)) (λ d. omega arith), tt)
  go false false e = (low_plain (48 + n / 10) (omega arith) (omega arith) (λ d. omega arith), (low_plain (48 + n % 10) (omega arith) (omega arith) (λ d. omega arith), tt))

held_plain : (side : Side) (kind : Kind) (n : ℕ) → n ≤ 18 → ArePlain (held_text side kind n)
held_plain side k zero le = tt
held_plain side k (suc n) le = both_plain (count_text (suc n)) (letter_of side k ∷ []) (count_plain (suc n) le) ((letter_plain side k).0, tt)

pub hand_plain : (side : Side) (hand : List ℕ) → IsSmall hand → ArePlain (hand_text side hand)
hand_plain side hand small =
    let one = λ (kind : Kind) (king : kind ≢ King). held_plain side kind (hand_count hand kind) (small kind king) in
    both_plain _ _ (one Rook (λ e. cc)) (both_plain _ _ (one Bishop (λ e. cc)) (both_plain _ _ (one Gold (λ e. cc)) (both_plain _ _ (one Silver (λ e. cc)) (both_plain _ _ (one Knight (λ e. cc)) (both_plain _ _ (one Lance (λ e. cc)) (both_plain _ _ (one Pawn (λ e. cc)) tt))))))
