-- What has been written, and what is still to be written.
use Rattle.std.proofs.Common.{◌≡◌, ℕ, zero, suc, ◌+◌, ◌-◌, ◌<◌, ◌≤◌, List, [], ◌∷◌, ◌++◌, Option, Result, Ok, Err, OnOk, Bool, true, false, ◌==◌, length, refl, sym, ap, ◌∙◌, append_assoc, arith}
use Rattle.std.specs.List.{flat_map, range_with_len}
use Rattle.std.proofs.lemmas.Bool.{eqb-true}
use Rattle.std.proofs.lemmas.List.{append-nil}
use Rattle.std.proofs.lemmas.List.Concat.{flat_map-append}
use Rattle.bit_boards.specs.declared.piece.Piece.{Piece}
use Rattle.bit_boards.specs.Square.{square_on}
use Rattle.board_core.specs.Board.{piece_at}
use Rattle.sfen_text.specs.Spelling.{row_from}
use Rattle.bit_boards.specs.declared.piece.Kind.{Kind}
use Rattle.bit_boards.specs.declared.piece.Kind.TheVariants.{Pawn, Lance, Knight, Silver, Gold, Bishop, Rook, King}
use Rattle.kif_text.specs.Lines.{utf8}
use Rattle.kif_record.specs.Characters.{count_text, held_text, kind_text, wide_blank}
use Rattle.kif_record.specs.Diagram.{cell_text, joined, line, or_none, with_blank}

range_more : (a n j : ℕ) → a + n ≡ j → range_with_len a (n + 1) ≡ range_with_len a n ++ j ∷ []
range_more a zero j e = let same : a ≡ j = omega arith in ap (λ (k : ℕ). k ∷ []) same
range_more a (suc n) j e =
    let again = range_more (a + 1) n j (omega arith) in
    let e : suc n + 1 ≡ suc (n + 1) = omega arith in
    rw e (ap (λ (ks : List ℕ). a ∷ ks) again)

-- One more of the rows from 1 on.
pub rows_more : (f : ℕ → List ℕ) (row_number : ℕ) → 1 ≤ row_number → flat_map f (range_with_len 1 (row_number + 1 - 1)) ≡ flat_map f (range_with_len 1 (row_number - 1)) ++ f row_number
rows_more f row_number le =
    let e : row_number + 1 - 1 ≡ (row_number - 1) + 1 = omega arith in
    rw e (ap (flat_map f) (range_more 1 (row_number - 1) row_number (omega arith)) ∙ flat_map-append f (range_with_len 1 (row_number - 1)) (row_number ∷ []) ∙ ap (λ (t : List ℕ). flat_map f (range_with_len 1 (row_number - 1)) ++ t) (append-nil (f row_number)))

row_from_more : (cells : List (Option Piece)) (row_number n : ℕ) → 0 < n → row_from cells row_number n ≡ piece_at cells (square_on n row_number) ∷ row_from cells row_number (n - 1)
row_from_more cells row_number zero lt = absurd (omega arith)
row_from_more cells row_number (suc m) lt = let e : suc m - 1 ≡ m = omega arith in ap (λ (k : ℕ). piece_at cells (square_on (suc m) row_number) ∷ row_from cells row_number k) (sym e)

-- The cell of one more file was put.
pub cell_put : (cells : List (Option Piece)) (row_number n : ℕ) (out new total : List ℕ) → 0 < n
    → out ++ flat_map cell_text (row_from cells row_number n) ≡ total → new ≡ out ++ cell_text (piece_at cells (square_on n row_number))
    → new ++ flat_map cell_text (row_from cells row_number (n - 1)) ≡ total
cell_put cells row_number n out new total lt before e =
    let row = row_from_more cells row_number n lt in
    let whole = rw row at before in
    rw e (append_assoc out (cell_text (piece_at cells (square_on n row_number))) (flat_map cell_text (row_from cells row_number (n - 1))) ∙ whole)

-- The cells of all files were put.
pub cells_put : (cells : List (Option Piece)) (row_number n : ℕ) (out total : List ℕ) → n ≤ 0
    → out ++ flat_map cell_text (row_from cells row_number n) ≡ total → out ≡ total
cells_put cells row_number zero out total le e = sym (append-nil out) ∙ e
cells_put cells row_number (suc n) out total le e = absurd (omega (arith, le))

-- All rows were put.
pub all_rows : (f : ℕ → List ℕ) (old out : List ℕ) (row_number : ℕ) → 10 ≤ row_number → row_number ≤ 10
    → out ≡ old ++ flat_map f (range_with_len 1 (row_number - 1)) → out ≡ old ++ flat_map f (range_with_len 1 9)
all_rows f old out row_number le ge e =
    let last : row_number - 1 ≡ 9 = omega arith in
    rw last at e

-- A blank stands behind something.
pub blank_behind : (before : List ℕ) (n : ℕ) (empty : Bool) → n ≡ length before → empty ≡ (n == 0) → empty ≡ false → with_blank before ≡ before ++ wide_blank
blank_behind [] n empty long is some = let no = rw long at is in absurd cc
blank_behind (byte ∷ before) n empty long is some = refl

pub blank_behind_nothing : (before : List ℕ) (n : ℕ) (empty : Bool) → n ≡ length before → empty ≡ (n == 0) → empty ≡ true → before ≡ with_blank before
blank_behind_nothing [] n empty long is none = refl
blank_behind_nothing (byte ∷ before) n empty long is none = let zero_long : n ≡ 0 = eqb-true n 0 (sym is ∙ none) in absurd (omega (arith, long, zero_long))

-- The name of a kind is something.
name_is_some : (kind : Kind) → (byte : ℕ) × (rest : List ℕ) × (kind_text kind ≡ byte ∷ rest)
unfolding lib.Utf8.encode
name_is_some Pawn = (_, _, refl)
name_is_some Lance = (_, _, refl)
name_is_some Knight = (_, _, refl)
name_is_some Silver = (_, _, refl)
name_is_some Gold = (_, _, refl)
name_is_some Bishop = (_, _, refl)
name_is_some Rook = (_, _, refl)
name_is_some King = (_, _, refl)

-- An item begins with the name of its kind.
named_item : (before : List ℕ) (name count : List ℕ) → (byte : ℕ) × (rest : List ℕ) × (name ≡ byte ∷ rest) → joined before (name ++ count) ≡ with_blank before ++ (name ++ count)
named_item before name count some = rw (some.2) refl

item_is : (before : List ℕ) (kind : Kind) (n : ℕ) (blank named new : List ℕ) → (n ≡ 0 → ⊥) → blank ≡ with_blank before → named ≡ blank ++ kind_text kind
    → new ≡ named ++ count_text n → new ≡ joined before (held_text kind n)
item_is before piece zero blank named new some e f g = absurd (some refl)
item_is before piece (suc n) blank named new some e f g =
    g ∙ ap (λ (t : List ℕ). t ++ count_text (suc n)) (f ∙ ap (λ (t : List ℕ). t ++ kind_text piece) e)
    ∙ append_assoc (with_blank before) (kind_text piece) (count_text (suc n)) ∙ sym (named_item before (kind_text piece) (count_text (suc n)) (name_is_some piece))

-- An item was put behind what stood there.
pub item_put : {X E : Type 0} (r : Result X E) (before : List ℕ) (kind : Kind) (n m : ℕ) (blank named new : List ℕ) → n ≡ m → (n ≡ 0 → ⊥) → blank ≡ with_blank before
    → named ≡ blank ++ kind_text kind → OnOk r (new ≡ named ++ count_text n) → OnOk r (new ≡ joined before (held_text kind m))
item_put (Ok x) before piece n m blank named new same some e f g = item_is before piece n blank named new some e f g ∙ ap (λ (k : ℕ). joined before (held_text piece k)) same
item_put (Err y) before piece n m blank named new same some e f g = g

-- A word stands in place of nothing.
pub none_for_nothing : (text : List ℕ) (n : ℕ) (empty : Bool) → n ≡ length text → empty ≡ (n == 0) → empty ≡ true → text ++ utf8 "なし" ≡ or_none text
none_for_nothing [] n empty long is none = refl
none_for_nothing (byte ∷ text) n empty long is none = let zero_long : n ≡ 0 = eqb-true n 0 (sym is ∙ none) in absurd (omega (arith, long, zero_long))

pub some_stays : (text : List ℕ) (n : ℕ) (empty : Bool) → n ≡ length text → empty ≡ (n == 0) → empty ≡ false → text ≡ or_none text
some_stays [] n empty long is some = let no = rw long at is in absurd cc
some_stays (byte ∷ text) n empty long is some = refl

-- Four texts were put one behind the other.
pub four_put : {X E : Type 0} (r : Result X E) (old a b c d one two three four : List ℕ) → one ≡ old ++ a → two ≡ one ++ b → three ≡ two ++ c
    → OnOk r (four ≡ three ++ d) → OnOk r (four ≡ old ++ (a ++ b ++ c ++ d))
four_put (Ok x) old a b c d one two three four e f g h =
    h ∙ ap (λ (t : List ℕ). t ++ d) (g ∙ ap (λ (t : List ℕ). t ++ c) (f ∙ ap (λ (t : List ℕ). t ++ b) e ∙ append_assoc old a b) ∙ append_assoc old (a ++ b) c)
    ∙ append_assoc old (a ++ b ++ c) d
four_put (Err y) old a b c d one two three four e f g h = h

-- Three texts, and a line of a text and a word behind it.
pub line_put : (a b c d word : List ℕ) (one two three four five : List ℕ) → one ≡ a → two ≡ one ++ b → three ≡ two ++ c → four ≡ three ++ d
    → five ≡ four ++ line word → five ≡ a ++ b ++ c ++ line (d ++ word)
line_put a b c d word one two three four five e f g h i =
    i ∙ ap (λ (t : List ℕ). t ++ line word) (h ∙ ap (λ (t : List ℕ). t ++ d) (g ∙ ap (λ (t : List ℕ). t ++ c) (f ∙ ap (λ (t : List ℕ). t ++ b) e)))
    ∙ append_assoc (a ++ b ++ c) d (line word) ∙ ap (λ (t : List ℕ). a ++ b ++ c ++ t) (sym (append_assoc d word (10 ∷ [])))
