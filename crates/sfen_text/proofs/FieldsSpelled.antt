-- What spells the fields of a position is read as them, and what is read spells them.
use Rattle.std.proofs.Common.{◌≡◌, ◌⊎◌, inl, inr, ℕ, suc, ◌+◌, ◌-◌, ◌≤◌, Bool, true, false, List, [], ◌∷◌, ◌++◌, length, take, drop, reverse, Option, None, Ok, refl, sym, ap, subst, ◌∙◌, arith}
use Rattle.std.specs.Prelude.{nat_le}
use Rattle.std.specs.List.{flat_map, list_all}
use Rattle.std.proofs.lemmas.Bool.{and_parts, and_from}
use Rattle.std.proofs.lemmas.Bool.Decides.{eqb_tells, nat_tests}
use Rattle.std.proofs.lemmas.List.{append-nil, length-append, length-replicate, length-reverse, reverse-append, reverse-reverse, take_at, drop_at}
use Rattle.std.proofs.lemmas.List.Folds.{list_all-append}
use Rattle.board_core.specs.Laws.{PlacesInHand}
use Rattle.bit_boards.specs.declared.piece.Piece.{Piece}
use Rattle.board_core.specs.Board.{Board}
use Rattle.sfen_text.specs.Spelling.{side_letter}
use Rattle.sfen_text.specs.Spells.{Stretch, empty, one, stretch_text, stretch_squares, row_squares, row_behind_slash, BoardSpells, HandsSpell, IsGap, IsNumber, IsEnd, hand_item_text}
use Rattle.sfen_text.specs.Reading.{leading, without_end_blanks, field_of, end_outcome, fields_at}
use Rattle.sfen_text.specs.Bytes.{is_digit, is_space, is_blank}
use Rattle.sfen_text.specs.Fields.{Field, field, end_of}
use Rattle.sfen_text.proofs.BytesAgain.{ArePlain, both_plain, low_plain, run_plain, piece_plain}
use Rattle.sfen_text.proofs.Fields.{all_good}
use Rattle.sfen_text.proofs.FieldsAgain.{Ends, AreSolid, leading_none, leading_more, leading_nil, no_space, no_blank, field_size, solid_from_plain, last_solid}
use Rattle.sfen_text.proofs.TextAgain.{Begun, Two, two_of, dash_begun, end_again, side_again, side_solid}
use Rattle.sfen_text.specs.Faults.{AreNineEach}
use Rattle.sfen_text.proofs.BoardSpelled.{rows_are, spelled_cells}
use Rattle.sfen_text.proofs.HandsSpelled.{items_plain, spelled_hands}

-- ---- bytes that pass a test

pub all_of_both : (test : ℕ → Bool) (xs ys : List ℕ) → list_all test xs ≡ true → list_all test ys ≡ true → list_all test (xs ++ ys) ≡ true
all_of_both test xs ys p q = list_all-append test xs ys ∙ and_from (list_all test xs) (list_all test ys) p q

pub all_reversed : (test : ℕ → Bool) (xs : List ℕ) → list_all test xs ≡ true → list_all test (reverse xs) ≡ true
all_reversed test [] h = h
all_reversed test (x ∷ xs) h =
    let parts = and_parts (test x) (list_all test xs) h in
    ap (list_all test) (reverse-append (x ∷ []) xs) ∙ all_of_both test (reverse xs) (x ∷ []) (all_reversed test xs parts.1) (rw parts.0 refl)

space_blank : (x : ℕ) → is_space x ≡ true → is_blank x ≡ true
space_blank x h = rw h refl

pub spaces_blank : (xs : List ℕ) → list_all is_space xs ≡ true → list_all is_blank xs ≡ true
spaces_blank [] h = refl
spaces_blank (x ∷ xs) h = let parts = and_parts (is_space x) (list_all is_space xs) h in and_from (is_blank x) (list_all is_blank xs) (space_blank x parts.0) (spaces_blank xs parts.1)

pub leading_all : (test : ℕ → Bool) (xs : List ℕ) (y : ℕ) (ys : List ℕ) → list_all test xs ≡ true → test y ≡ false → leading test (xs ++ y ∷ ys) ≡ length xs
leading_all test [] y ys all stop = leading_none test y ys stop
leading_all test (x ∷ xs) y ys all stop =
    let parts = and_parts (test x) (list_all test xs) all in
    leading_more test x (xs ++ y ∷ ys) parts.0 ∙ ap suc (leading_all test xs y ys parts.1 stop)

-- What the leading bytes are, and what stands behind them.
pub record Split (test : ℕ → Bool) (text : List ℕ) : Type 0 where
  pub lead : List ℕ
  pub rest : List ℕ
  pub parts : text ≡ lead ++ rest
  pub size : leading test text ≡ length lead
  pub all : list_all test lead ≡ true
  pub stops : (rest ≡ []) ⊎ ((x : ℕ) × (xs : List ℕ) × (rest ≡ x ∷ xs) × (test x ≡ false))

pub split : (test : ℕ → Bool) (text : List ℕ) → Split test text
split test [] = record { lead = []; rest = []; parts = refl; size = leading_nil test; all = refl; stops = inl refl }
split test (x ∷ text) = go (split test text) (test x) refl where
  go : Split test text → (b : Bool) → test x ≡ b → Split test (x ∷ text)
  go more true t = record {
    lead = x ∷ more.lead;
    rest = more.rest;
    parts = ap (λ (xs : List ℕ). x ∷ xs) more.parts;
    size = leading_more test x text t ∙ ap suc more.size;
    all = and_from (test x) (list_all test more.lead) t more.all;
    stops = more.stops;
  }
  go more false t = record { lead = []; rest = x ∷ text; parts = refl; size = leading_none test x text t; all = refl; stops = inr (x, text, refl, t) }

-- A text without the blanks at its end, and these.
pub end_parts : (text : List ℕ) → (after : List ℕ) × (text ≡ without_end_blanks text ++ after) × (list_all is_blank after ≡ true)
unfolding without_end_blanks
end_parts text =
    let back = split is_blank (reverse text) in
    let turned : text ≡ reverse back.rest ++ reverse back.lead = sym (reverse-reverse text) ∙ ap reverse back.parts ∙ reverse-append back.lead back.rest in
    let long : length text ≡ length (reverse back.rest) + length back.lead = ap length turned ∙ length-append (reverse back.rest) (reverse back.lead) ∙ ap (λ (k : ℕ). length (reverse back.rest) + k) (length-reverse back.lead) in
    let size : length (reverse back.rest) ≡ length text - leading is_blank (reverse text) = omega (arith, long, back.size) in
    let front : take (length text - leading is_blank (reverse text)) text ≡ reverse back.rest = ap (take (length text - leading is_blank (reverse text))) turned ∙ take_at (reverse back.rest) (reverse back.lead) (length text - leading is_blank (reverse text)) size in
    (reverse back.lead, turned ∙ ap (λ (xs : List ℕ). xs ++ reverse back.lead) (sym front), all_reversed is_blank back.lead back.all)

-- Behind a solid byte the blanks at the end are dropped, and no more.
pub end_dropped : (front : List ℕ) (x : ℕ) (xs after : List ℕ) → AreSolid (x ∷ xs) → list_all is_blank after ≡ true → without_end_blanks ((front ++ x ∷ xs) ++ after) ≡ front ++ x ∷ xs
unfolding without_end_blanks
end_dropped front x xs after solid blank =
    let last = last_solid xs x solid in
    let body = front ++ x ∷ xs in
    let turned : reverse body ≡ last.1 ∷ (reverse last.0 ++ reverse front) = reverse-append front (x ∷ xs) ∙ ap (λ (t : List ℕ). reverse t ++ reverse front) last.2 ∙ ap (λ (t : List ℕ). t ++ reverse front) (reverse-append last.0 (last.1 ∷ [])) in
    let whole : reverse (body ++ after) ≡ reverse after ++ last.1 ∷ (reverse last.0 ++ reverse front) = reverse-append body after ∙ ap (λ (t : List ℕ). reverse after ++ t) turned in
    let count : leading is_blank (reverse (body ++ after)) ≡ length after = ap (leading is_blank) whole ∙ leading_all is_blank (reverse after) last.1 (reverse last.0 ++ reverse front) (all_reversed is_blank after blank) (no_blank last.1 last.3) ∙ length-reverse after in
    let size : length body ≡ length (body ++ after) - leading is_blank (reverse (body ++ after)) = omega (arith, count, length-append body after) in
    take_at body after (length (body ++ after) - leading is_blank (reverse (body ++ after))) size

-- ---- what is spelled is read

pub field_found : (at : ℕ) (spaces : List ℕ) (x : ℕ) (xs rest : List ℕ) → list_all is_space spaces ≡ true → AreSolid (x ∷ xs) → Ends rest
    → field_of at (spaces ++ ((x ∷ xs) ++ rest)) ≡ field (at + length spaces) (x ∷ xs) rest
unfolding field_of
field_found at spaces x xs rest all solid ends =
    let lead = leading_all is_space spaces x (xs ++ rest) all (no_space x solid.0) in
    let behind : drop (length spaces) (spaces ++ ((x ∷ xs) ++ rest)) ≡ (x ∷ xs) ++ rest = drop_at spaces ((x ∷ xs) ++ rest) (length spaces) refl in
    let size = field_size (x ∷ xs) rest solid ends in
    rw (lead, behind, size, take_at (x ∷ xs) rest (length (x ∷ xs)) refl, drop_at (x ∷ xs) rest (length (x ∷ xs)) refl) refl

stretch_plain : (s : Stretch) → length (stretch_squares s) ≤ 9 → ArePlain (stretch_text s)
stretch_plain (empty n) le = run_plain n (omega (arith, le, length-replicate {A = Option Piece} n None))
stretch_plain (one p) le = piece_plain p

row_plain : (row : List Stretch) → length (row_squares row) ≤ 9 → ArePlain (flat_map stretch_text row)
row_plain [] le = tt
row_plain (s ∷ row) le =
    let size = length-append (stretch_squares s) (row_squares row) in
    both_plain (stretch_text s) (flat_map stretch_text row) (stretch_plain s (omega (arith, size, le))) (row_plain row (omega (arith, size, le)))

rows_plain : (rows : List (List Stretch)) → AreNineEach rows → ArePlain (flat_map row_behind_slash rows)
rows_plain [] nine = tt
rows_plain (row ∷ rows) nine = both_plain (row_behind_slash row) (flat_map row_behind_slash rows) (low_plain 47 (omega arith) (omega arith) (λ e. omega arith), row_plain row (omega (arith, nine.0))) (rows_plain rows nine.1)

rows_long : (rows : List (List Stretch)) → length rows ≤ length (flat_map row_behind_slash rows)
rows_long [] = omega arith
rows_long (row ∷ rows) = omega (arith, rows_long rows, length-append (row_behind_slash row) (flat_map row_behind_slash rows))

pub board_two : (text : List ℕ) (cells : List (Option Piece)) → BoardSpells text cells → Two text
board_two text cells spells =
    let are = rows_are 9 spells.0 cells 1 spells.2 in
    let plain : ArePlain (47 ∷ text) = subst ArePlain (sym spells.1) (rows_plain spells.0 are.1) in
    let long : length (47 ∷ text) ≡ length (flat_map row_behind_slash spells.0) = ap length spells.1 in
    two_of text plain.1 (omega (arith, long, rows_long spells.0, are.0))

pub hands_begun : (text black white : List ℕ) → HandsSpell text black white → Begun text
hands_begun text black white spells = let begun = dash_begun (flat_map hand_item_text spells.0) (items_plain spells.0) in record { first = begun.first; others = begun.others; parts = spells.1 ∙ begun.parts; solid = begun.solid }

gap_ends : (gap rest : List ℕ) → IsGap gap → Ends (gap ++ rest)
gap_ends [] rest is = absurd (is.0 refl)
gap_ends (x ∷ gap) rest is = elim (eqb_tells x 32) [ inl t ↦ t.1 | inr f ↦ absurd (let g = f.0 in let h = (and_parts (is_space x) (list_all is_space gap) is.1).0 in cc) ]

pub digits_solid : (xs : List ℕ) → list_all is_digit xs ≡ true → AreSolid xs
digits_solid [] h = tt
digits_solid (x ∷ xs) h =
    let parts = and_parts (is_digit x) (list_all is_digit xs) h in
    let from : 48 ≤ x = grind (arith, nat_tests, (and_parts (nat_le 48 x) (nat_le x 57) parts.0).0) in
    (omega (arith, from), digits_solid xs parts.1)

number_ended : (at : ℕ) (digits : List ℕ) → length digits ≤ 9 → list_all is_digit digits ≡ true → end_outcome (field at digits []) ≡ Ok (field at digits [])
unfolding end_outcome field_of leading
number_ended at digits le all = let fits : nat_le (length digits) 9 ≡ true = grind (arith, nat_tests, le) in rw (fits, all) refl

-- What may stand behind the hands is read to its end.
record EndRead (at : ℕ) (end : List ℕ) : Type 0 where
  found : Field
  is : found ≡ field_of at end
  good : end_outcome found ≡ Ok found

nothing_here : (at : ℕ) → field (at + 0) [] [] ≡ field_of at []
unfolding field_of leading
nothing_here at = refl

end_read : (at : ℕ) (end : List ℕ) → IsEnd end → EndRead at end
end_read at end (inl none) = subst (EndRead at) (sym none) (record { found = field (at + 0) [] []; is = nothing_here at; good = end_again (at + 0) })
end_read at end (inr (gap, digits, parts, is_gap, number)) = subst (EndRead at) (sym parts) (go digits number) where
  go : (digits : List ℕ) → IsNumber digits → EndRead at (gap ++ digits)
  go [] number = absurd (number.0 refl)
  go (x ∷ xs) number =
      let found = field_found at gap x xs [] is_gap.1 (digits_solid (x ∷ xs) number.2) tt in
      record {
        found = field (at + length gap) (x ∷ xs) [];
        is = sym (ap (λ (t : List ℕ). field_of at (gap ++ t)) (sym (append-nil (x ∷ xs))) ∙ found);
        good = number_ended (at + length gap) (x ∷ xs) number.1 number.2;
      }

end_ends : (end : List ℕ) → IsEnd end → Ends end
end_ends end (inl none) = subst Ends (sym none) tt
end_ends end (inr (gap, digits, parts, is_gap, number)) = subst Ends (sym parts) (gap_ends gap digits is_gap)

found_by : (at : ℕ) (spaces text rest : List ℕ) → list_all is_space spaces ≡ true → Begun text → Ends rest → field (at + length spaces) text rest ≡ field_of at (spaces ++ (text ++ rest))
found_by at spaces text rest all begun ends = rw begun.parts (sym (field_found at spaces begun.first begun.others rest all begun.solid ends))

two_begun : (text : List ℕ) → Two text → Begun text
two_begun text two = record { first = two.first; others = two.second ∷ two.others; parts = two.parts; solid = solid_from_plain (two.first ∷ two.second ∷ two.others) two.plain }

-- The fields of a position, from any place.
pub fields_read : PlacesInHand → (at : ℕ) (p : Board) (spaces board gap next_gap hands end : List ℕ) → length p.cells ≡ 81 → length p.black ≡ 7 → length p.white ≡ 7
    → list_all is_space spaces ≡ true → BoardSpells board p.cells → IsGap gap → IsGap next_gap → HandsSpell hands p.black p.white → IsEnd end
    → fields_at at (spaces ++ (board ++ (gap ++ (side_letter p.side ∷ (next_gap ++ (hands ++ end)))))) ≡ Ok p
fields_read in_hand at p spaces board gap next_gap hands end cells black white is_spaces is_board is_gap is_next_gap is_hands is_end =
    let third = next_gap ++ (hands ++ end) in
    let second = gap ++ (side_letter p.side ∷ third) in
    let f1 = field (at + length spaces) board second in
    let f2 = field (end_of f1 + length gap) (side_letter p.side ∷ []) third in
    let f3 = field (end_of f2 + length next_gap) hands end in
    let last = end_read (end_of f3) end is_end in
    all_good at (spaces ++ (board ++ second)) f1 f2 f3 last.found p.cells p.side (p.black, p.white)
    (found_by at spaces board second is_spaces (two_begun board (board_two board p.cells is_board)) (gap_ends gap (side_letter p.side ∷ third) is_gap))
    (spelled_cells board p.cells f1.at cells is_board)
    (sym (field_found (end_of f1) gap (side_letter p.side) [] third is_gap.1 (side_solid p.side) (gap_ends next_gap (hands ++ end) is_next_gap)))
    (side_again p.side f2.at)
    (found_by (end_of f2) next_gap hands end is_next_gap.1 (hands_begun hands p.black p.white is_hands) (end_ends end is_end))
    (spelled_hands in_hand hands p.black p.white f3.at black white is_hands)
    last.is
    last.good
