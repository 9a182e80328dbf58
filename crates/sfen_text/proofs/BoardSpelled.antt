-- What spells a board is read as it; and what a letter stands for.
use Rattle.std.proofs.Common.{◌≡◌, inl, inr, ℕ, zero, suc, ◌+◌, ◌-◌, ◌<◌, ◌≤◌, Bool, true, false, cond, eqb, List, [], ◌∷◌, ◌++◌, length, map, drop, Option, Some, None, Ok, refl, sym, ap, subst, ◌∙◌, append_assoc, arith}
use Rattle.std.specs.Prelude.{replicate, nat_le, nat_lt, option_and_then}
use Rattle.std.specs.List.{flat_map, range_with_len}
use Rattle.std.proofs.lemmas.Bool.{lt-ltb}
use Rattle.std.proofs.lemmas.Bool.Decides.{eqb_tells, nat_tests}
use Rattle.std.proofs.lemmas.List.{length-append, length-replicate}
use Rattle.bit_boards.specs.declared.piece.Kind.{Kind}
use Rattle.bit_boards.specs.declared.piece.Kind.TheVariants.{Pawn, Lance, Knight, Silver, Gold, Bishop, Rook, King}
use Rattle.bit_boards.specs.declared.piece.Side.{Side}
use Rattle.bit_boards.specs.declared.piece.Side.TheVariants.{Black, White}
use Rattle.bit_boards.specs.declared.piece.Piece.{Piece}
use Rattle.bit_boards.specs.Text.{kind_letter}
use Rattle.bit_boards.specs.Text.{kind_of_letter}
use Rattle.bit_boards.specs.Piece.{plain_piece}
use Rattle.sfen_text.specs.Pieces.{letter_of, capital_of, side_of_letter, promoted_piece, piece_of, promoted_of}
use Rattle.sfen_text.specs.Spelling.{cells_of_row, run_text}
use Rattle.sfen_text.specs.Spells.{Stretch, empty, one, stretch_text, stretch_squares, row_squares, row_behind_slash, BoardSpells}
use Rattle.sfen_text.specs.Faults.{AreNineEach}
use Rattle.sfen_text.specs.Signs.{signs, in_front, squares}
use Rattle.sfen_text.specs.Reading.{cells_at}
use Rattle.sfen_text.proofs.Filling.{signs_one, in_front_twice, in_front_none}
use Rattle.sfen_text.proofs.RowsAgain.{run_again, piece_again, row_size, cells_again}

-- ---- what is spelled is read

pub stretch_read : (s : Stretch) (left further_rows end at : ℕ) (text : List ℕ) → length (stretch_squares s) ≤ left → left ≤ 9
    → squares end further_rows left (signs at (stretch_text s ++ text)) ≡ in_front (stretch_squares s) (squares end further_rows (left - length (stretch_squares s)) (signs (at + length (stretch_text s)) text))
stretch_read (empty n) left further_rows end at text le nine =
    let size : length (replicate {A = Option Piece} n None) ≡ n = length-replicate n None in
    rw size (run_again n left further_rows end at text (omega (arith, size, le)) (omega (arith, size, le)))
stretch_read (one p) left further_rows end at text le nine = piece_again p left further_rows end at text (omega (arith, le))

pub row_read : (row : List Stretch) (left further_rows end at : ℕ) (text : List ℕ) → length (row_squares row) ≤ left → left ≤ 9
    → squares end further_rows left (signs at (flat_map stretch_text row ++ text)) ≡ in_front (row_squares row) (squares end further_rows (left - length (row_squares row)) (signs (at + length (flat_map stretch_text row)) text))
row_read [] left further_rows end at text le nine =
    let same : left - 0 ≡ left = omega arith in
    let here : at + 0 ≡ at = omega arith in
    rw (same, here) (sym (in_front_none (squares end further_rows left (signs at text))))
row_read (s ∷ row) left further_rows end at text le nine =
    let size = length-append (stretch_squares s) (row_squares row) in
    let behind = flat_map stretch_text row ++ text in
    let next = at + length (stretch_text s) in
    let last = next + length (flat_map stretch_text row) in
    let first = stretch_read s left further_rows end at behind (omega (arith, size, le)) nine in
    let others = row_read row (left - length (stretch_squares s)) further_rows end next text (omega (arith, size, le)) (omega (arith, nine)) in
    let less : left - length (stretch_squares s) - length (row_squares row) ≡ left - length (stretch_squares s ++ row_squares row) = omega (arith, size) in
    let place : last ≡ at + length (stretch_text s ++ flat_map stretch_text row) = omega (arith, length-append (stretch_text s) (flat_map stretch_text row)) in
    ap (λ (t : List ℕ). squares end further_rows left (signs at t)) (append_assoc (stretch_text s) (flat_map stretch_text row) text) ∙ first
    ∙ ap (in_front (stretch_squares s)) others
    ∙ in_front_twice (stretch_squares s) (row_squares row) (squares end further_rows (left - length (stretch_squares s) - length (row_squares row)) (signs last text))
    ∙ ap (λ (k : ℕ). in_front (stretch_squares s ++ row_squares row) (squares end further_rows k (signs last text))) less
    ∙ ap (λ (k : ℕ). in_front (stretch_squares s ++ row_squares row) (squares end further_rows (left - length (stretch_squares s ++ row_squares row)) (signs k text))) place

pub whole_row : (row : List Stretch) (further_rows end at : ℕ) (text : List ℕ) → length (row_squares row) ≡ 9
    → squares end further_rows 9 (signs at (flat_map stretch_text row ++ text)) ≡ in_front (row_squares row) (squares end further_rows 0 (signs (at + length (flat_map stretch_text row)) text))
whole_row row further_rows end at text e =
    let nothing : 9 - length (row_squares row) ≡ 0 = omega (arith, e) in
    row_read row 9 further_rows end at text (omega (arith, e)) (omega arith) ∙ ap (λ (k : ℕ). in_front (row_squares row) (squares end further_rows k (signs (at + length (flat_map stretch_text row)) text))) nothing

-- A slash behind a whole row.
pub slash_read : (further_rows end at : ℕ) (text : List ℕ) → 0 < further_rows → squares end further_rows 0 (signs at (47 ∷ text)) ≡ squares end (further_rows - 1) 9 (signs (at + 1) text)
unfolding squares
slash_read further_rows end at text lt =
    let first = signs_one at 47 text (inr (λ e. omega arith)) in
    let some : nat_lt 0 further_rows ≡ true = lt-ltb 0 further_rows lt in
    rw (first, some) refl

rows_read : (rows : List (List Stretch)) (end at : ℕ) → AreNineEach rows
    → squares end (length rows) 0 (signs at (flat_map row_behind_slash rows)) ≡ Ok (flat_map row_squares rows)
unfolding squares signs
rows_read [] end at nine = refl
rows_read (row ∷ rows) end at nine =
    let rest = flat_map row_behind_slash rows in
    let less : suc (length rows) - 1 ≡ length rows = omega arith in
    let whole = whole_row row (length rows) end (at + 1) rest nine.0 in
    slash_read (suc (length rows)) end at (flat_map stretch_text row ++ rest) (omega arith) ∙ rw (less, whole, rows_read rows end (at + 1 + length (flat_map stretch_text row)) nine.1) refl

pub rows_are : (n : ℕ) (rows : List (List Stretch)) (cells : List (Option Piece)) (row_number : ℕ) → map row_squares rows ≡ map (cells_of_row cells) (range_with_len row_number n)
    → (length rows ≡ n) × AreNineEach rows × (flat_map row_squares rows ≡ flat_map (cells_of_row cells) (range_with_len row_number n))
rows_are zero [] cells row_number e = (refl, tt, refl)
rows_are zero (row ∷ rows) cells row_number e = absurd cc
rows_are (suc n) [] cells row_number e = absurd cc
rows_are (suc n) (row ∷ rows) cells row_number e =
    let head : row_squares row ≡ cells_of_row cells row_number = cc in
    let tail : map row_squares rows ≡ map (cells_of_row cells) (range_with_len (row_number + 1) n) = cc in
    let others = rows_are n rows cells (row_number + 1) tail in
    (ap suc others.0, (ap length head ∙ row_size cells row_number, others.1), rw (head, others.2) refl)

pub board_read : (rows : List (List Stretch)) (text : List ℕ) (cells : List (Option Piece)) (end at : ℕ) → 47 ∷ text ≡ flat_map row_behind_slash rows → map row_squares rows ≡ map (cells_of_row cells) (range_with_len 1 9)
    → squares end 8 9 (signs at text) ≡ Ok (flat_map (cells_of_row cells) (range_with_len 1 9))
board_read [] text cells end at e same = absurd cc
board_read (row ∷ rows) text cells end at e same =
    let are = rows_are 9 (row ∷ rows) cells 1 same in
    let eight : length rows ≡ 8 = omega (arith, are.0) in
    let behind : text ≡ flat_map stretch_text row ++ flat_map row_behind_slash rows = ap (drop 1) e in
    let whole = whole_row row 8 end at (flat_map row_behind_slash rows) are.1.0 in
    let others = rw eight at (rows_read rows end (at + length (flat_map stretch_text row)) are.1.1) in
    ap (λ (t : List ℕ). squares end 8 9 (signs at t)) behind ∙ whole ∙ ap (in_front (row_squares row)) others ∙ ap (λ (xs : List (Option Piece)). Ok xs) are.2

pub spelled_cells : (text : List ℕ) (cells : List (Option Piece)) (at : ℕ) → length cells ≡ 81 → BoardSpells text cells → cells_at at text ≡ Ok cells
unfolding cells_at
spelled_cells text cells at size spells = rw (board_read spells.0 text cells (at + length text) at spells.1 spells.2, cells_again cells size) refl

-- ---- letters

kind_back : (c : ℕ) (k : Kind) → kind_of_letter c ≡ Some k → c ≡ kind_letter k
kind_back c k e = elim (eqb_tells c 80) [
  | inl t ↦ t.1 ∙ ap kind_letter (some_same Pawn k (rw t.0 at e))
  | inr f ↦ not_pawn (rw f.0 at e)
] where
  some_same : (a b : Kind) → Some a ≡ Some b → a ≡ b
  some_same a b h = cc

  not_king : cond (eqb c 75) (Some King) None ≡ Some k → c ≡ kind_letter k
  not_king e = elim (eqb_tells c 75) [ inl t ↦ t.1 ∙ ap kind_letter (some_same King k (rw t.0 at e)) | inr f ↦ absurd (let g = rw f.0 at e in cc) ]

  not_bishop : cond (eqb c 82) (Some Rook) (cond (eqb c 75) (Some King) None) ≡ Some k → c ≡ kind_letter k
  not_bishop e = elim (eqb_tells c 82) [ inl t ↦ t.1 ∙ ap kind_letter (some_same Rook k (rw t.0 at e)) | inr f ↦ not_king (rw f.0 at e) ]

  not_gold : cond (eqb c 66) (Some Bishop) (cond (eqb c 82) (Some Rook) (cond (eqb c 75) (Some King) None)) ≡ Some k → c ≡ kind_letter k
  not_gold e = elim (eqb_tells c 66) [ inl t ↦ t.1 ∙ ap kind_letter (some_same Bishop k (rw t.0 at e)) | inr f ↦ not_bishop (rw f.0 at e) ]

  not_silver : cond (eqb c 71) (Some Gold) (cond (eqb c 66) (Some Bishop) (cond (eqb c 82) (Some Rook) (cond (eqb c 75) (Some King) None))) ≡ Some k → c ≡ kind_letter k
  not_silver e = elim (eqb_tells c 71) [ inl t ↦ t.1 ∙ ap kind_letter (some_same Gold k (rw t.0 at e)) | inr f ↦ not_gold (rw f.0 at e) ]

  not_knight : cond (eqb c 83) (Some Silver) (cond (eqb c 71) (Some Gold) (cond (eqb c 66) (Some Bishop) (cond (eqb c 82) (Some Rook) (cond (eqb c 75) (Some King) None)))) ≡ Some k → c ≡ kind_letter k
  not_knight e = elim (eqb_tells c 83) [ inl t ↦ t.1 ∙ ap kind_letter (some_same Silver k (rw t.0 at e)) | inr f ↦ not_silver (rw f.0 at e) ]

  not_lance : cond (eqb c 78) (Some Knight) (cond (eqb c 83) (Some Silver) (cond (eqb c 71) (Some Gold) (cond (eqb c 66) (Some Bishop) (cond (eqb c 82) (Some Rook) (cond (eqb c 75) (Some King) None))))) ≡ Some k → c ≡ kind_letter k
  not_lance e = elim (eqb_tells c 78) [ inl t ↦ t.1 ∙ ap kind_letter (some_same Knight k (rw t.0 at e)) | inr f ↦ not_knight (rw f.0 at e) ]

  not_pawn : cond (eqb c 76) (Some Lance) (cond (eqb c 78) (Some Knight) (cond (eqb c 83) (Some Silver) (cond (eqb c 71) (Some Gold) (cond (eqb c 66) (Some Bishop) (cond (eqb c 82) (Some Rook) (cond (eqb c 75) (Some King) None)))))) ≡ Some k → c ≡ kind_letter k
  not_pawn e = elim (eqb_tells c 76) [ inl t ↦ t.1 ∙ ap kind_letter (some_same Lance k (rw t.0 at e)) | inr f ↦ not_lance (rw f.0 at e) ]

-- A letter is the letter of its side and kind.
letter_is : (byte : ℕ) (k : Kind) → kind_of_letter (capital_of byte) ≡ Some k → byte ≡ letter_of (side_of_letter byte) k
letter_is byte k e = go (nat_le 97 byte) refl (kind_back (capital_of byte) k e) where
  go : (b : Bool) → nat_le 97 byte ≡ b → cond b (byte - 32) byte ≡ kind_letter k → byte ≡ letter_of (cond b White Black) k
  go true t h = let le : 97 ≤ byte = grind (arith, nat_tests, t) in omega (arith, le, h)
  go false f h = h

abbrev IsLetterOf : ℕ → Bool → Piece → Type 0
IsLetterOf byte promoted p = (p.promoted ≡ promoted) × (byte ≡ letter_of p.side p.kind)

pub plain_back : (byte : ℕ) (p : Piece) → piece_of byte ≡ Some p → (p.promoted ≡ false) × (byte ≡ letter_of p.side p.kind)
unfolding piece_of
plain_back byte p e = go (kind_of_letter (capital_of byte)) refl e where
  go : (o : Option Kind) → kind_of_letter (capital_of byte) ≡ o → option_and_then (λ kind. Some (plain_piece kind (side_of_letter byte))) o ≡ Some p → IsLetterOf byte false p
  go None t h = absurd cc
  go (Some k) t h = let same : plain_piece k (side_of_letter byte) ≡ p = cc in subst (IsLetterOf byte false) same (refl, letter_is byte k t)

made_parts : (q p : Piece) → Some q ≡ Some p → q.promoted ≡ true → (p.promoted ≡ true) × (q.side ≡ p.side) × (q.kind ≡ p.kind)
made_parts q p e t = let same : q ≡ p = cc in (sym (ap (λ (x : Piece). x.promoted) same) ∙ t, ap (λ (x : Piece). x.side) same, ap (λ (x : Piece). x.kind) same)

promoted_parts : (side : Side) (k : Kind) (p : Piece) → promoted_piece side k ≡ Some p → (p.promoted ≡ true) × (side ≡ p.side) × (k ≡ p.kind)
promoted_parts side Pawn p e = made_parts _ p e refl
promoted_parts side Lance p e = made_parts _ p e refl
promoted_parts side Knight p e = made_parts _ p e refl
promoted_parts side Silver p e = made_parts _ p e refl
promoted_parts side Gold p e = absurd cc
promoted_parts side Bishop p e = made_parts _ p e refl
promoted_parts side Rook p e = made_parts _ p e refl
promoted_parts side King p e = absurd cc

pub promoted_back : (byte : ℕ) (p : Piece) → promoted_of byte ≡ Some p → IsLetterOf byte true p
unfolding promoted_of
promoted_back byte p e = go (kind_of_letter (capital_of byte)) refl e where
  go : (o : Option Kind) → kind_of_letter (capital_of byte) ≡ o → option_and_then (λ kind. promoted_piece (side_of_letter byte) kind) o ≡ Some p → IsLetterOf byte true p
  go None t h = absurd cc
  go (Some k) t h = let parts = promoted_parts (side_of_letter byte) k p h in (parts.0, letter_is byte k t ∙ rw (parts.1, parts.2) refl)

pub run_one : (n : ℕ) → 1 ≤ n → (48 + n) ∷ [] ≡ run_text n
run_one zero le = absurd (omega arith)
run_one (suc n) le = refl
