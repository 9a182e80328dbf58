-- What is read of the board's field is spelled there; and where it goes wrong, as a relation and as
-- it is read.
use Rattle.std.proofs.Common.{◌≡◌, ◌⊎◌, inl, inr, ℕ, zero, suc, ◌+◌, ◌-◌, ◌*◌, ◌<◌, ◌≤◌, Bool, true, false, cond, List, [], ◌∷◌, ◌++◌, length, map, get_or, Option, Some, None, Result, Ok, Err, refl, sym, ap, subst, ◌∙◌, append_assoc, arith}
use Rattle.std.specs.Prelude.{replicate, nat_le, nat_lt, ◌&&◌, ◌==◌}
use Rattle.std.specs.List.{flat_map, range_with_len}
use Rattle.bit_boards.specs.Square.{square_on}
use Rattle.board_core.specs.Board.{piece_at}
use Rattle.std.proofs.lemmas.List.FromFn.{get_or-map-range_with_len}
use Rattle.std.proofs.lemmas.Bool.{and_parts, lt-ltb, cases_Bool}
use Rattle.std.proofs.lemmas.Bool.Decides.{eqb_tells, nat_tests}
use Rattle.std.proofs.lemmas.List.{append-nil, get_or_append_left, get_or-append_right, ext_get_or, length-append, length-replicate, flat_map_more}
use Rattle.board_laws.proofs.Cells.{piece_at_is}
use Rattle.bit_boards.specs.declared.piece.Piece.{Piece}
use Rattle.sfen_text.specs.declared.fault.TextFault.{TextFault}
use Rattle.sfen_text.specs.declared.fault.TextFault.TheVariants as faults
use Rattle.sfen_text.specs.declared.squares.Sign.{Sign}
use Rattle.sfen_text.specs.declared.squares.Sign.TheVariants.{Slash, Run, Stands, Broken}
use Rattle.sfen_text.specs.Pieces.{letter_of, plus_text, piece_text, piece_of, promoted_of}
use Rattle.sfen_text.specs.Spelling.{cells_of_row, run_text}
use Rattle.sfen_text.specs.Spells.{Stretch, empty, one, stretch_text, stretch_squares, row_squares, row_behind_slash, BoardSpells}
use Rattle.sfen_text.specs.Fields.{Field, end_of}
use Rattle.sfen_text.specs.Faults.{CanStand, row_before_slash, AreNineEach, IsWellUpTo, PassesNine, IsWrongSlash, IsWrongEnd, HasBadRow, HasBadPiece}
use Rattle.sfen_text.specs.Signs.{plain_sign, sign_of_piece, Signs, sign, signs, in_front, squares, reading_place, cells_of}
use Rattle.sfen_text.specs.Reading.{◌>>=◌, cells_at}
use Rattle.sfen_text.proofs.Filling.{signs_one, in_front_twice, in_front_none, le_passes}
use Rattle.sfen_text.proofs.PiecesAgain.{piece_sign}
use Rattle.sfen_text.proofs.RowsAgain.{run_sign, row_size, at_file}
use Rattle.sfen_text.proofs.BoardSpelled.{row_read, whole_row, slash_read, plain_back, promoted_back, run_one}

-- ---- signs

-- The sign of a stretch.
abbrev sign_of : Stretch → Sign
sign_of (empty n) = Run n
sign_of (one p) = Stands p

run_signs : (n at : ℕ) (text : List ℕ) → 1 ≤ n → n ≤ 9 → signs at (run_text n ++ text) ≡ sign at (Run n) (signs (at + length (run_text n)) text)
run_signs zero at text from to = absurd (omega arith)
run_signs (suc n) at text from to = let first = signs_one at (48 + suc n) text (inr (λ e. omega arith)) in rw (first, run_sign (suc n) from to) refl

stretch_signs : (s : Stretch) (at : ℕ) (text : List ℕ) → CanStand s → signs at (stretch_text s ++ text) ≡ sign at (sign_of s) (signs (at + length (stretch_text s)) text)
stretch_signs (empty n) at text is = run_signs n at text is.0 is.1
stretch_signs (one p) at text is = piece_sign p at text

step_fits : (s : Stretch) (end further_rows left at : ℕ) (rest : Signs) → length (stretch_squares s) ≤ left
    → squares end further_rows left (sign at (sign_of s) rest) ≡ in_front (stretch_squares s) (squares end further_rows (left - length (stretch_squares s)) rest)
unfolding squares
step_fits (empty n) end further_rows left at rest le =
    let size : length (replicate {A = Option Piece} n None) ≡ n = length-replicate n None in
    let fits : nat_le n left ≡ true = le_passes n left (omega (arith, size, le)) in
    rw (size, fits) refl
step_fits (one p) end further_rows left at rest le = let fits : nat_lt 0 left ≡ true = lt-ltb 0 left (omega (arith, le)) in rw fits refl

step_passes : (s : Stretch) (end further_rows left at : ℕ) (rest : Signs) → left < length (stretch_squares s) → squares end further_rows left (sign at (sign_of s) rest) ≡ Err (faults.BadRow at)
unfolding squares
step_passes (empty n) end further_rows left at rest lt =
    let more : left < n = omega (arith, lt, length-replicate {A = Option Piece} n None) in
    let passes : nat_le n left ≡ false = grind (arith, nat_tests, more) in
    rw passes refl
step_passes (one p) end further_rows left at rest lt =
    let full : left ≡ 0 = omega (arith, lt) in
    rw full refl

no_slash_sign : (at here : ℕ) (rest others : Signs) → sign at Slash rest ≡ sign here Broken others → ⊥
no_slash_sign at here rest others e = absurd (let same : Slash ≡ Broken = cc in cc)

not_broken : (s : Stretch) (at : ℕ) (rest others : Signs) → sign at (sign_of s) rest ≡ sign at Broken others → ⊥
not_broken (empty n) at rest others e = absurd (let same : Run n ≡ Broken = cc in cc)
not_broken (one p) at rest others e = absurd (let same : Stands p ≡ Broken = cc in cc)

-- What stands first in a text: a slash, a stretch, or no sign.
data First (at : ℕ) (text : List ℕ) : Type 0 where
  slash : (behind : List ℕ) → text ≡ 47 ∷ behind → First at text
  stretch : (s : Stretch) (behind : List ℕ) → CanStand s → text ≡ stretch_text s ++ behind → First at text
  no_sign : (others : Signs) → signs at text ≡ sign at Broken others → First at text

piece_first : (at : ℕ) (text behind : List ℕ) (others : Signs) (o : Option Piece) → signs at text ≡ sign at (sign_of_piece o) others
    → ((p : Piece) → o ≡ Some p → text ≡ piece_text p ++ behind) → First at text
piece_first at text behind others None e is = no_sign others e
piece_first at text behind others (Some p) e is = stretch (one p) behind tt (is p refl)

plain_first : (at byte : ℕ) (text : List ℕ) → signs at (byte ∷ text) ≡ sign at (plain_sign byte) (signs (at + 1) text) → First at (byte ∷ text)
plain_first at byte text e = elim (eqb_tells byte 47) [
  | inl t ↦ slash text (ap (λ (x : ℕ). x ∷ text) t.1)
  | inr f ↦ run (nat_le 49 byte && nat_le byte 57) refl (rw f.0 at e)
] where
  run : (b : Bool) → (nat_le 49 byte && nat_le byte 57) ≡ b → signs at (byte ∷ text) ≡ sign at (cond b (Run (byte - 48)) (sign_of_piece (piece_of byte))) (signs (at + 1) text) → First at (byte ∷ text)
  run true t h =
      let tests = and_parts (nat_le 49 byte) (nat_le byte 57) t in
      let from : 49 ≤ byte = grind (arith, nat_tests, tests.0) in
      let to : byte ≤ 57 = grind (arith, nat_tests, tests.1) in
      let value : byte ≡ 48 + (byte - 48) = omega (arith, from) in
      stretch (empty (byte - 48)) text (omega (arith, from), omega (arith, to)) (ap (λ (x : ℕ). x ∷ text) value ∙ ap (λ (t : List ℕ). t ++ text) (run_one (byte - 48) (omega (arith, from))))
  run false t h = piece_first at (byte ∷ text) text (signs (at + 1) text) (piece_of byte) h (λ p e. let is = plain_back byte p e in rw is.0 (ap (λ (x : ℕ). x ∷ text) is.1))

first_of : (at byte : ℕ) (text : List ℕ) → First at (byte ∷ text)
unfolding signs
first_of at byte [] = plain_first at byte [] (signs_one at byte [] (inl refl))
first_of at byte (next ∷ text) = elim (eqb_tells byte 43) [
  | inl t ↦ piece_first at (byte ∷ next ∷ text) text (signs (at + 2) text) (promoted_of next) (rw t.0 refl) (λ p e. let is = promoted_back next p e in rw (is.0, t.1) (ap (λ (x : ℕ). 43 ∷ x ∷ text) is.1))
  | inr f ↦ plain_first at byte (next ∷ text) (signs_one at byte (next ∷ text) (inr f.1))
]

-- ---- a fault that is there is found

-- Whole rows, a slash behind each, and a part of the next are read.
record Along (rows : List (List Stretch)) (row : List Stretch) (further_rows end at : ℕ) (rest : List ℕ) : Type 0 where
  front : List (Option Piece)
  read : squares end further_rows 9 (signs at ((flat_map row_before_slash rows ++ flat_map stretch_text row) ++ rest))
      ≡ in_front front (squares end (further_rows - length rows) (9 - length (row_squares row)) (signs (at + length (flat_map row_before_slash rows ++ flat_map stretch_text row)) rest))

along : (rows : List (List Stretch)) (row : List Stretch) (further_rows end at : ℕ) (rest : List ℕ) → AreNineEach rows → length rows ≤ further_rows → length (row_squares row) ≤ 9
    → Along rows row further_rows end at rest
along [] row further_rows end at rest nine few fits =
    let same : further_rows - 0 ≡ further_rows = omega arith in
    record { front = row_squares row; read = rw same (row_read row 9 further_rows end at rest fits (omega arith)) }
along (first ∷ rows) row further_rows end at rest nine few fits =
    let own = flat_map stretch_text first in
    let behind = flat_map row_before_slash rows ++ flat_map stretch_text row in
    let next = at + length own + 1 in
    let others = along rows row (further_rows - 1) end next rest nine.1 (omega (arith, few)) fits in
    let less : further_rows - 1 - length rows ≡ further_rows - suc (length rows) = omega arith in
    let whole : (flat_map row_before_slash (first ∷ rows) ++ flat_map stretch_text row) ++ rest ≡ own ++ 47 ∷ (behind ++ rest) = simp append_assoc in
    let parts : flat_map row_before_slash (first ∷ rows) ++ flat_map stretch_text row ≡ own ++ 47 ∷ behind = simp append_assoc in
    let place : next + length behind ≡ at + length (flat_map row_before_slash (first ∷ rows) ++ flat_map stretch_text row) = omega (arith, ap length parts, length-append own (47 ∷ behind)) in
    let last = squares end (further_rows - 1 - length rows) (9 - length (row_squares row)) (signs (next + length behind) rest) in
    record {
      front = row_squares first ++ others.front;
      read = ap (λ (t : List ℕ). squares end further_rows 9 (signs at t)) whole
          ∙ whole_row first further_rows end at (47 ∷ (behind ++ rest)) nine.0
          ∙ ap (in_front (row_squares first)) (slash_read further_rows end (at + length own) (behind ++ rest) (omega (arith, few)) ∙ others.read)
          ∙ in_front_twice (row_squares first) others.front last
          ∙ ap (λ (k : ℕ). in_front (row_squares first ++ others.front) (squares end k (9 - length (row_squares row)) (signs (next + length behind) rest))) less
          ∙ ap (λ (k : ℕ). in_front (row_squares first ++ others.front) (squares end (further_rows - suc (length rows)) (9 - length (row_squares row)) (signs k rest))) place;
    }

no_cells : (at : ℕ) (text : List ℕ) (fault : TextFault) → squares (at + length text) 8 9 (signs at text) ≡ Err fault → cells_at at text ≡ Err fault
unfolding cells_at
no_cells at text fault e = rw e refl

-- What is found where all before is well is found.
found_behind : (board : Field) (here : ℕ) (rest : List ℕ) (fault : TextFault) (well : IsWellUpTo board here rest)
    → squares (end_of board) (8 - length well.rows) (9 - length (row_squares well.row)) (signs here rest) ≡ Err fault → cells_at board.at board.text ≡ Err fault
found_behind board here rest fault well e =
    let read = along well.rows well.row 8 (end_of board) board.at rest well.nine well.few well.fits in
    no_cells board.at board.text fault
    (ap (λ (t : List ℕ). squares (end_of board) 8 9 (signs board.at t)) well.parts ∙ read.read
    ∙ ap (λ (k : ℕ). in_front read.front (squares (end_of board) (8 - length well.rows) (9 - length (row_squares well.row)) (signs k rest))) (sym well.place)
    ∙ ap (in_front read.front) e)

wrong_slash : (end further_rows left at : ℕ) (text : List ℕ) → (0 < left) ⊎ (further_rows ≡ 0) → squares end further_rows left (signs at (47 ∷ text)) ≡ Err (faults.BadRow at)
unfolding squares
wrong_slash end further_rows left at text wrong =
    let first = signs_one at 47 text (inr (λ e. omega arith)) in
    let test : (left == 0 && nat_lt 0 further_rows) ≡ false = elim wrong [ inl some ↦ grind (arith, nat_tests, some) | inr last ↦ grind (arith, nat_tests, last) ] in
    rw (first, test) refl

wrong_end : (end further_rows left at : ℕ) → (0 < left) ⊎ (0 < further_rows) → squares end further_rows left (signs at []) ≡ Err (faults.BadRow end)
unfolding squares signs
wrong_end end further_rows left at wrong =
    let test : (further_rows == 0 && left == 0) ≡ false = elim wrong [ inl some ↦ grind (arith, nat_tests, some) | inr some ↦ grind (arith, nat_tests, some) ] in
    rw test refl

pub bad_row_found : (board : Field) (here : ℕ) → HasBadRow board here → cells_at board.at board.text ≡ Err (faults.BadRow here)
bad_row_found board here is = found_behind board here is.rest (faults.BadRow here) is.well (go is.wrong) where
  go : PassesNine is.well.row is.rest ⊎ (IsWrongSlash is.well.rows is.well.row is.rest ⊎ IsWrongEnd is.well.rows is.well.row is.rest)
      → squares (end_of board) (8 - length is.well.rows) (9 - length (row_squares is.well.row)) (signs here is.rest) ≡ Err (faults.BadRow here)
  go (inl (next, behind, can, parts, more)) =
      ap (λ (t : List ℕ). squares (end_of board) (8 - length is.well.rows) (9 - length (row_squares is.well.row)) (signs here t)) parts
      ∙ ap (squares (end_of board) (8 - length is.well.rows) (9 - length (row_squares is.well.row))) (stretch_signs next here behind can)
      ∙ step_passes next (end_of board) (8 - length is.well.rows) (9 - length (row_squares is.well.row)) here (signs (here + length (stretch_text next)) behind) (omega (arith, more, is.well.fits))
  go (inr (inl (behind, parts, wrong))) =
      ap (λ (t : List ℕ). squares (end_of board) (8 - length is.well.rows) (9 - length (row_squares is.well.row)) (signs here t)) parts
      ∙ wrong_slash (end_of board) (8 - length is.well.rows) (9 - length (row_squares is.well.row)) here behind
      (elim wrong [ inl some ↦ inl (omega (arith, some)) | inr last ↦ inr (omega (arith, last)) ])
  go (inr (inr (none_left, wrong))) =
      let prefix = flat_map row_before_slash is.well.rows ++ flat_map stretch_text is.well.row in
      let whole : board.text ≡ prefix = is.well.parts ∙ ap (λ (t : List ℕ). prefix ++ t) none_left ∙ append-nil prefix in
      let place : end_of board ≡ here = ap (λ (t : List ℕ). board.at + length t) whole ∙ sym is.well.place in
      ap (λ (t : List ℕ). squares (end_of board) (8 - length is.well.rows) (9 - length (row_squares is.well.row)) (signs here t)) none_left
      ∙ wrong_end (end_of board) (8 - length is.well.rows) (9 - length (row_squares is.well.row)) here
      (elim wrong [ inl some ↦ inl (omega (arith, some)) | inr some ↦ inr (omega (arith, some)) ])
      ∙ ap (λ (k : ℕ). Err (faults.BadRow k)) place

no_sign_read : (end further_rows left at : ℕ) (others : Signs) → squares end further_rows left (sign at Broken others) ≡ Err (faults.BadPiece at)
unfolding squares
no_sign_read end further_rows left at others = refl

pub bad_piece_found : (board : Field) (here : ℕ) → HasBadPiece board here → cells_at board.at board.text ≡ Err (faults.BadPiece here)
bad_piece_found board here is = found_behind board here (is.byte ∷ is.behind) (faults.BadPiece here) is.well (go (first_of here is.byte is.behind)) where
  go : First here (is.byte ∷ is.behind)
      → squares (end_of board) (8 - length is.well.rows) (9 - length (row_squares is.well.row)) (signs here (is.byte ∷ is.behind)) ≡ Err (faults.BadPiece here)
  go (slash behind e) = absurd (is.no_slash cc)
  go (stretch s behind can e) = absurd (is.no_stretch s behind can e)
  go (no_sign others e) = ap (squares (end_of board) (8 - length is.well.rows) (9 - length (row_squares is.well.row))) e
      ∙ no_sign_read (end_of board) (8 - length is.well.rows) (9 - length (row_squares is.well.row)) here others

-- ---- a fault that is found is there

-- The fault is there in the board's field.
abbrev pub HasBoardFault : Field → TextFault → Type 0
HasBoardFault board (faults.BadRow here) = HasBadRow board here
HasBoardFault board (faults.BadPiece here) = HasBadPiece board here
HasBoardFault board (faults.BadSide here) = ⊥
HasBoardFault board (faults.BadHand here) = ⊥
HasBoardFault board (faults.HandTwice here) = ⊥
HasBoardFault board (faults.Trailing here) = ⊥
HasBoardFault board (faults.BadPosition bad) = ⊥

nine_more : (rows : List (List Stretch)) (row : List Stretch) → AreNineEach rows → length (row_squares row) ≡ 9 → AreNineEach (rows ++ row ∷ [])
nine_more [] row nine e = (e, tt)
nine_more (first ∷ rows) row nine e = (nine.0, nine_more rows row nine.1 e)

-- What was read of the board's field: nine rows that it spells, or a fault that is there.
abbrev BoardAre : Field → Result (List (Option Piece)) TextFault → Type 0
BoardAre board (Ok read) = (rows : List (List Stretch)) × (47 ∷ board.text ≡ flat_map row_behind_slash rows) × (read ≡ flat_map row_squares rows) × AreNineEach rows × (length rows ≡ 9)
BoardAre board (Err fault) = HasBoardFault board fault

-- The field is well up to here, with these rows and this part of a row.
record Well (board : Field) (rows : List (List Stretch)) (row : List Stretch) (here : ℕ) (rest : List ℕ) : Type 0 where
  nine : AreNineEach rows
  few : length rows ≤ 8
  fits : length (row_squares row) ≤ 9
  parts : board.text ≡ (flat_map row_before_slash rows ++ flat_map stretch_text row) ++ rest
  place : here ≡ board.at + length (flat_map row_before_slash rows ++ flat_map stretch_text row)

abbrev up_to : (board : Field) (rows : List (List Stretch)) (row : List Stretch) (here : ℕ) (rest : List ℕ) → Well board rows row here rest → IsWellUpTo board here rest
up_to board rows row here rest w = record { rows = rows; row = row; nine = w.nine; few = w.few; fits = w.fits; parts = w.parts; place = w.place }

stretch_more : (board : Field) (rows : List (List Stretch)) (row : List Stretch) (here : ℕ) (rest : List ℕ) (s : Stretch) (behind : List ℕ) → Well board rows row here rest → rest ≡ stretch_text s ++ behind
    → length (row_squares row) + length (stretch_squares s) ≤ 9
    → Well board rows (row ++ s ∷ []) (here + length (stretch_text s)) behind × (length (row_squares (row ++ s ∷ [])) ≡ length (row_squares row) + length (stretch_squares s))
stretch_more board rows row here rest s behind w e fits =
    let before = flat_map row_before_slash rows in
    let prefix = before ++ flat_map stretch_text row in
    let longer : prefix ++ stretch_text s ≡ before ++ flat_map stretch_text (row ++ s ∷ []) = flat_map_more stretch_text before row s in
    let squares_more : row_squares row ++ stretch_squares s ≡ row_squares (row ++ s ∷ []) = flat_map_more stretch_squares [] row s in
    let count : length (row_squares (row ++ s ∷ [])) ≡ length (row_squares row) + length (stretch_squares s) = ap length (sym squares_more) ∙ length-append (row_squares row) (stretch_squares s) in
    let size : length (before ++ flat_map stretch_text (row ++ s ∷ [])) ≡ length prefix + length (stretch_text s) = ap length (sym longer) ∙ length-append prefix (stretch_text s) in (
      record {
        nine = w.nine;
        few = w.few;
        fits = omega (arith, count, fits);
        parts = w.parts ∙ ap (λ (t : List ℕ). prefix ++ t) e ∙ sym (append_assoc prefix (stretch_text s) behind) ∙ ap (λ (t : List ℕ). t ++ behind) longer;
        place = omega (arith, w.place, size);
      },
      count,
    )

row_more : (board : Field) (rows : List (List Stretch)) (row : List Stretch) (here : ℕ) (rest behind : List ℕ) → Well board rows row here rest → rest ≡ 47 ∷ behind
    → length (row_squares row) ≡ 9 → length rows < 8 → Well board (rows ++ row ∷ []) [] (here + 1) behind × (length (rows ++ row ∷ []) ≡ length rows + 1)
row_more board rows row here rest behind w e full few =
    let before = flat_map row_before_slash rows in
    let prefix = before ++ flat_map stretch_text row in
    let longer : before ++ (flat_map stretch_text row ++ 47 ∷ []) ≡ flat_map row_before_slash (rows ++ row ∷ []) = flat_map_more row_before_slash [] rows row in
    let whole : prefix ++ 47 ∷ [] ≡ flat_map row_before_slash (rows ++ row ∷ []) ++ [] = append_assoc before (flat_map stretch_text row) (47 ∷ []) ∙ longer ∙ sym (append-nil (flat_map row_before_slash (rows ++ row ∷ []))) in
    let count : length (rows ++ row ∷ []) ≡ length rows + 1 = length-append rows (row ∷ []) in
    let size : length (flat_map row_before_slash (rows ++ row ∷ []) ++ []) ≡ length prefix + 1 = ap length (sym whole) ∙ length-append prefix (47 ∷ []) in (
      record {
        nine = nine_more rows row w.nine full;
        few = omega (arith, count, few);
        fits = omega arith;
        parts = w.parts ∙ ap (λ (t : List ℕ). prefix ++ t) e ∙ sym (append_assoc prefix (47 ∷ []) behind) ∙ ap (λ (t : List ℕ). t ++ behind) whole;
        place = omega (arith, w.place, size);
      },
      count,
    )

-- A row that isn't full, or not the last, by the tests of what is still to come.
not_full : (rows : List (List Stretch)) (row : List Stretch) → (8 - length rows == 0 && 9 - length (row_squares row) == 0) ≡ false → (length (row_squares row) < 9) ⊎ (length rows < 8)
not_full rows row e = elim (eqb_tells (9 - length (row_squares row)) 0) [
  | inl full ↦ elim (eqb_tells (8 - length rows) 0) [
    | inl last ↦ absurd (let f = rw (full.0, last.0) at e in cc)
    | inr more ↦ inr (let apart = more.1 in omega (arith, apart))
  ]
  | inr more ↦ inl (let apart = more.1 in omega (arith, apart))
]

not_next : (rows : List (List Stretch)) (row : List Stretch) → length rows ≤ 8 → (9 - length (row_squares row) == 0 && nat_lt 0 (8 - length rows)) ≡ false → (length (row_squares row) < 9) ⊎ (length rows ≡ 8)
not_next rows row few e = elim (eqb_tells (9 - length (row_squares row)) 0) [
  | inl full ↦ inr (let f : nat_lt 0 (8 - length rows) ≡ false = rw full.0 at e in let le : 8 - length rows ≤ 0 = grind (arith, nat_tests, f) in omega (arith, le, few))
  | inr more ↦ inl (let apart = more.1 in omega (arith, apart))
]

-- What stands on the squares so far.
abbrev squares_so_far : List (List Stretch) → List Stretch → List (Option Piece)
squares_so_far rows row = flat_map row_squares rows ++ row_squares row

row_ended : (rows : List (List Stretch)) (row : List Stretch) → flat_map row_squares (rows ++ row ∷ []) ≡ squares_so_far rows row
row_ended rows row = sym (flat_map_more row_squares [] rows row)

-- A slash behind each row but the last, or in front of each.
slashes : (rows : List (List Stretch)) (row : List Stretch) → 47 ∷ (flat_map row_before_slash rows ++ flat_map stretch_text row) ≡ flat_map row_behind_slash (rows ++ row ∷ [])
slashes [] row = ap (λ (t : List ℕ). 47 ∷ t) (sym (append-nil (flat_map stretch_text row)))
slashes (first ∷ rows) row =
    let own = flat_map stretch_text first in
    let behind = flat_map row_before_slash rows in
    let parts : ((own ++ 47 ∷ []) ++ behind) ++ flat_map stretch_text row ≡ own ++ 47 ∷ (behind ++ flat_map stretch_text row) = simp append_assoc in
    ap (λ (t : List ℕ). 47 ∷ t) (parts ∙ ap (λ (t : List ℕ). own ++ t) (slashes rows row))

at_end : (board : Field) (rows : List (List Stretch)) (row : List Stretch) (here : ℕ) → Well board rows row here []
    → BoardAre board (in_front (squares_so_far rows row) (squares (end_of board) (8 - length rows) (9 - length (row_squares row)) (signs here [])))
unfolding squares signs
at_end board rows row here w = go (8 - length rows == 0 && 9 - length (row_squares row) == 0) refl where
  prefix : List ℕ
  prefix = flat_map row_before_slash rows ++ flat_map stretch_text row

  whole : board.text ≡ prefix
  whole = w.parts ∙ append-nil prefix

  go : (b : Bool) → (8 - length rows == 0 && 9 - length (row_squares row) == 0) ≡ b → BoardAre board (in_front (squares_so_far rows row) (cond {A = Result (List (Option Piece)) TextFault} b (Ok []) (Err (faults.BadRow (end_of board)))))
  go true t =
      let tests = and_parts (8 - length rows == 0) (9 - length (row_squares row) == 0) t in
      let last : 8 - length rows ≡ 0 = grind (arith, nat_tests, tests.0) in
      let full : 9 - length (row_squares row) ≡ 0 = grind (arith, nat_tests, tests.1) in (
        rows ++ row ∷ [],
        ap (λ (t : List ℕ). 47 ∷ t) whole ∙ slashes rows row,
        append-nil (squares_so_far rows row) ∙ sym (row_ended rows row),
        nine_more rows row w.nine (omega (arith, full, w.fits)),
        omega (arith, last, w.few, length-append rows (row ∷ [])),
      )
  go false t = subst (HasBadRow board) (w.place ∙ ap (λ (t : List ℕ). board.at + length t) (sym whole)) (record {
    rest = [];
    well = up_to board rows row here [] w;
    wrong = inr (inr (refl, not_full rows row t));
  })

slash_test : (end further_rows left here : ℕ) (behind : List ℕ) → squares end further_rows left (signs here (47 ∷ behind)) ≡ cond (left == 0 && nat_lt 0 further_rows) (squares end (further_rows - 1) 9 (signs (here + 1) behind)) (Err (faults.BadRow here))
unfolding squares
slash_test end further_rows left here behind = let first = signs_one here 47 behind (inr (λ e. omega arith)) in rw first refl

stretch_long : (s : Stretch) → CanStand s → 1 ≤ length (stretch_text s)
stretch_long (empty zero) can = absurd (omega (arith, can.0))
stretch_long (empty (suc n)) can = omega arith
stretch_long (one p) can = omega (arith, length-append (plus_text p.promoted) (letter_of p.side p.kind ∷ []))

fits_or_passes : (n : ℕ) → (n ≤ 9) ⊎ (9 < n)
fits_or_passes n = elim (cases_Bool (nat_le n 9)) [ inl t ↦ inl (grind (arith, nat_tests, t)) | inr f ↦ inr (grind (arith, nat_tests, f)) ]

broken_slash : (at : ℕ) (text : List ℕ) (others : Signs) → signs at (47 ∷ text) ≡ sign at Broken others → ⊥
broken_slash at text others e = let first : signs at (47 ∷ text) ≡ sign at Slash (signs (at + 1) text) = signs_one at 47 text (inr (λ e. omega arith)) in no_slash_sign at at (signs (at + 1) text) others (sym first ∙ e)

broken_stretch : (s : Stretch) (at : ℕ) (text : List ℕ) (others : Signs) → CanStand s → signs at (stretch_text s ++ text) ≡ sign at Broken others → ⊥
broken_stretch s at text others can e = not_broken s at (signs (at + length (stretch_text s)) text) others (sym (stretch_signs s at text can) ∙ e)

-- What is read from here on is there.
walk : (n : ℕ) (board : Field) (rows : List (List Stretch)) (row : List Stretch) (here : ℕ) (rest : List ℕ) → length rest ≤ n → Well board rows row here rest
    → BoardAre board (in_front (squares_so_far rows row) (squares (end_of board) (8 - length rows) (9 - length (row_squares row)) (signs here rest)))
walk n board rows row here [] le w = at_end board rows row here w
walk zero board rows row here (byte ∷ text) le w = absurd (omega arith)
walk (suc n) board rows row here (byte ∷ text) le w = go (λ rows row here rest le w. walk n board rows row here rest le w) (first_of here byte text) where
  Follows : Type 0
  Follows = (rows : List (List Stretch)) (row : List Stretch) (here : ℕ) (rest : List ℕ) → length rest ≤ n → Well board rows row here rest
      → BoardAre board (in_front (squares_so_far rows row) (squares (end_of board) (8 - length rows) (9 - length (row_squares row)) (signs here rest)))

  further_rows : ℕ
  further_rows = 8 - length rows

  left : ℕ
  left = 9 - length (row_squares row)

  front : List (Option Piece)
  front = squares_so_far rows row

  -- What is read from here on, and is there.
  Are : Result (List (Option Piece)) TextFault → Type 0
  Are r = BoardAre board (in_front front r)

  next_row : Follows → (behind : List ℕ) → byte ∷ text ≡ 47 ∷ behind → (b : Bool) → (left == 0 && nat_lt 0 further_rows) ≡ b
      → Are (cond b (squares (end_of board) (further_rows - 1) 9 (signs (here + 1) behind)) (Err (faults.BadRow here)))
  next_row follow behind parts true t =
      let tests = and_parts (left == 0) (nat_lt 0 further_rows) t in
      let none_left : left ≡ 0 = grind (arith, nat_tests, tests.0) in
      let some : 0 < further_rows = grind (arith, nat_tests, tests.1) in
      let more = row_more board rows row here (byte ∷ text) behind w parts (omega (arith, none_left, w.fits)) (omega (arith, some)) in
      let fewer : 8 - length (rows ++ row ∷ []) ≡ further_rows - 1 = omega (arith, more.1) in
      let size : length (byte ∷ text) ≡ suc (length behind) = ap length parts in
      let same : squares_so_far (rows ++ row ∷ []) [] ≡ front = append-nil (flat_map row_squares (rows ++ row ∷ [])) ∙ row_ended rows row in
      subst (λ (k : ℕ). Are (squares (end_of board) k 9 (signs (here + 1) behind))) fewer
      (subst (λ (f : List (Option Piece)). BoardAre board (in_front f (squares (end_of board) (8 - length (rows ++ row ∷ [])) 9 (signs (here + 1) behind)))) same
      (follow (rows ++ row ∷ []) [] (here + 1) behind (omega (arith, size, le)) more.0))
  next_row follow behind parts false t = record {
    rest = byte ∷ text;
    well = up_to board rows row here (byte ∷ text) w;
    wrong = inr (inl (behind, parts, not_next rows row w.few t));
  }

  next_stretch : Follows → (s : Stretch) (behind : List ℕ) → CanStand s → byte ∷ text ≡ stretch_text s ++ behind → (length (row_squares row) + length (stretch_squares s) ≤ 9) ⊎ (9 < length (row_squares row) + length (stretch_squares s))
      → Are (squares (end_of board) further_rows left (sign here (sign_of s) (signs (here + length (stretch_text s)) behind)))
  next_stretch follow s behind can parts (inl fits) =
      let next = signs (here + length (stretch_text s)) behind in
      let more = stretch_more board rows row here (byte ∷ text) s behind w parts fits in
      let less : 9 - length (row_squares (row ++ s ∷ [])) ≡ left - length (stretch_squares s) = omega (arith, more.1) in
      let own : 1 ≤ length (stretch_text s) = stretch_long s can in
      let size : length (byte ∷ text) ≡ length (stretch_text s) + length behind = ap length parts ∙ length-append (stretch_text s) behind in
      let same : squares_so_far rows (row ++ s ∷ []) ≡ front ++ stretch_squares s = sym (flat_map_more stretch_squares (flat_map row_squares rows) row s) in
      let others = squares (end_of board) further_rows (left - length (stretch_squares s)) next in
      subst Are (sym (step_fits s (end_of board) further_rows left here next (omega (arith, fits))))
      (subst (BoardAre board) (sym (in_front_twice front (stretch_squares s) others))
      (subst (λ (f : List (Option Piece)). BoardAre board (in_front f others)) same
      (subst (λ (k : ℕ). BoardAre board (in_front (squares_so_far rows (row ++ s ∷ [])) (squares (end_of board) further_rows k next))) less
      (follow rows (row ++ s ∷ []) (here + length (stretch_text s)) behind (omega (arith, size, le, own)) more.0))))
  next_stretch follow s behind can parts (inr passes) = subst Are (sym (step_passes s (end_of board) further_rows left here (signs (here + length (stretch_text s)) behind) (omega (arith, passes, w.fits)))) (record {
    rest = byte ∷ text;
    well = up_to board rows row here (byte ∷ text) w;
    wrong = inl (s, behind, can, parts, passes);
  })

  go : Follows → First here (byte ∷ text) → Are (squares (end_of board) further_rows left (signs here (byte ∷ text)))
  go follow (slash behind parts) = subst Are (sym (ap (λ (t : List ℕ). squares (end_of board) further_rows left (signs here t)) parts ∙ slash_test (end_of board) further_rows left here behind))
      (next_row follow behind parts (left == 0 && nat_lt 0 further_rows) refl)
  go follow (stretch s behind can parts) = subst Are (sym (ap (λ (t : List ℕ). squares (end_of board) further_rows left (signs here t)) parts ∙ ap (squares (end_of board) further_rows left) (stretch_signs s here behind can)))
      (next_stretch follow s behind can parts (fits_or_passes (length (row_squares row) + length (stretch_squares s))))
  go follow (no_sign others read) = subst Are (sym (ap (squares (end_of board) further_rows left) read ∙ no_sign_read (end_of board) further_rows left here others)) (record {
    byte = byte;
    behind = text;
    well = up_to board rows row here (byte ∷ text) w;
    no_slash = λ is. broken_slash here text others (ap (λ (x : ℕ). signs here (x ∷ text)) (sym is) ∙ read);
    no_stretch = λ s behind can parts. broken_stretch s here behind others can (ap (signs here) (sym parts) ∙ read);
  })

board_is : (board : Field) → BoardAre board (squares (end_of board) 8 9 (signs board.at board.text))
board_is board = subst (BoardAre board) (in_front_none (squares (end_of board) 8 9 (signs board.at board.text))) (walk (length board.text) board [] [] board.at board.text (omega arith) (record {
  nine = tt;
  few = omega arith;
  fits = omega arith;
  parts = refl;
  place = omega arith;
}))

pub board_fault_there : (board : Field) (fault : TextFault) → cells_at board.at board.text ≡ Err fault → HasBoardFault board fault
unfolding cells_at
board_fault_there board fault e = go (squares (end_of board) 8 9 (signs board.at board.text)) (board_is board) e where
  go : (r : Result (List (Option Piece)) TextFault) → BoardAre board r → r >>= (λ read. Ok (cells_of read)) ≡ Err fault → HasBoardFault board fault
  go (Ok read) is h = absurd cc
  go (Err found) is h = let same : found ≡ fault = cc in subst (HasBoardFault board) same is

-- ---- the cells

further_rows_are : (rows : List (List Stretch)) (row_number : ℕ) (cells : List (Option Piece)) → AreNineEach rows
    → ((r c : ℕ) → r < length rows → c < 9 → get_or (flat_map row_squares rows) (9 * r + c) None ≡ piece_at cells (square_on (9 - c) (row_number + r)))
    → map row_squares rows ≡ map (cells_of_row cells) (range_with_len row_number (length rows))
unfolding cells_of_row
further_rows_are [] row_number cells nine each = refl
further_rows_are (row ∷ rows) row_number cells nine each =
    let same : row_squares row ≡ cells_of_row cells row_number = ext_get_or None (row_squares row) (cells_of_row cells row_number) (nine.0 ∙ sym (row_size cells row_number)) (λ c lt.
    let zero_in : 9 * 0 + c ≡ c = omega arith in
    let row_number_in : row_number + 0 ≡ row_number = omega arith in
    let first = rw (zero_in, row_number_in) at (each 0 c (omega arith) (omega (arith, lt, nine.0))) in
    sym (get_or_append_left (row_squares row) (flat_map row_squares rows) None c lt) ∙ first ∙ sym (at_file 9 c cells row_number (omega (arith, lt, nine.0)))) in
    let others = further_rows_are rows (row_number + 1) cells nine.1 (λ r c lt small.
    let less : 9 * suc r + c - 9 ≡ 9 * r + c = omega arith in
    let below : row_number + suc r ≡ row_number + 1 + r = omega arith in
    let behind = get_or-append_right (row_squares row) (flat_map row_squares rows) 9 (9 * suc r + c) None nine.0 (omega arith) in
    sym (rw less at behind) ∙ each (suc r) c (omega (arith, lt)) small ∙ ap (λ (k : ℕ). piece_at cells (square_on (9 - c) k)) below) in
    rw (same, others) refl

read_square : (read : List (Option Piece)) (r c : ℕ) → r < 9 → c < 9 → get_or read (9 * r + c) None ≡ piece_at (cells_of read) (square_on (9 - c) (1 + r))
unfolding cells_of
read_square read r c low small =
    let place : reading_place (square_on (9 - c) (1 + r)) ≡ 9 * r + c = omega (arith, low, small) in
    let there : square_on (9 - c) (1 + r) < 81 = omega (arith, low, small) in
    sym (piece_at_is (map (λ square. piece_at read (reading_place square)) (range_with_len 0 81)) (square_on (9 - c) (1 + r))
    ∙ get_or-map-range_with_len (λ square. piece_at read (reading_place square)) 0 81 (square_on (9 - c) (1 + r)) (square_on (9 - c) (1 + r)) None there (omega arith)
    ∙ ap (piece_at read) place ∙ piece_at_is read (9 * r + c))

pub cells_spelled : (board : Field) (cells : List (Option Piece)) → cells_at board.at board.text ≡ Ok cells → BoardSpells board.text cells
unfolding cells_at
cells_spelled board cells e = go (squares (end_of board) 8 9 (signs board.at board.text)) (board_is board) e where
  go : (r : Result (List (Option Piece)) TextFault) → BoardAre board r → r >>= (λ read. Ok (cells_of read)) ≡ Ok cells → BoardSpells board.text cells
  go (Err fault) is h = absurd cc
  go (Ok read) (rows, spelled, stand, nine, count) h =
      let same : cells_of read ≡ cells = cc in
      let each = further_rows_are rows 1 (cells_of read) nine (λ r c low small. ap (λ (xs : List (Option Piece)). get_or xs (9 * r + c) None) (sym stand) ∙ read_square read r c (omega (arith, low, count)) small) in
      (rows, spelled, each ∙ ap (λ (k : ℕ). map (cells_of_row (cells_of read)) (range_with_len 1 k)) count ∙ ap (λ (cs : List (Option Piece)). map (cells_of_row cs) (range_with_len 1 9)) same)
