-- What spells a position is read as it, and what is read spells it.
use Rattle.std.proofs.Common.{◌≡◌, inl, inr, ℕ, ◌+◌, ◌≤◌, Bool, true, false, cond, List, [], ◌∷◌, ◌++◌, length, Option, Result, Ok, Err, IfOk, refl, sym, ap, subst, ◌∙◌, append_assoc, arith}
use Rattle.std.specs.Prelude.{nat_le, codes}
use Rattle.std.specs.List.{list_all}
use Rattle.std.proofs.lemmas.Bool.{and_parts, cases_Bool}
use Rattle.std.proofs.lemmas.Bool.Decides.{eqb_tells, nat_tests}
use Rattle.std.proofs.lemmas.List.{append-nil, nil_from_length, drop_at}
use Rattle.board_core.specs.Laws.{PlacesInHand}
use Rattle.bit_boards.specs.declared.piece.Piece.{Piece}
use Rattle.bit_boards.specs.declared.piece.Side.{Side}
use Rattle.bit_boards.specs.declared.piece.Side.TheVariants.{Black, White}
use Rattle.board_core.specs.Board.{HasDefender, Board}
use Rattle.board_core.specs.Kept.{IsKept}
use Rattle.sfen_text.specs.declared.fault.TextFault.{TextFault}
use Rattle.sfen_text.specs.declared.fault.TextFault.TheVariants as faults
use Rattle.sfen_text.specs.Spelling.{side_letter}
use Rattle.sfen_text.specs.Spells.{IsFrontWord, IsGap, IsNumber, IsEnd, Spells}
use Rattle.sfen_text.specs.Hands.{is_byte, hands_of}
use Rattle.sfen_text.specs.Reading.{◌>>=◌, leading, without_end_blanks, front_len, next_of, cells_at, side_at, is_number, end_outcome, fields_at, input_parts, IsOutcomeOf}
use Rattle.sfen_text.specs.Bytes.{is_digit, is_space, is_blank}
use Rattle.sfen_text.specs.Fields.{BeginsWithNo, Field, end_of, HasField, FieldsOf}
use Rattle.sfen_text.proofs.FieldsAgain.{AreSolid, in_field, no_blank}
use Rattle.sfen_text.proofs.TextAgain.{drop_none, Begun, Two, no_words, outcome_again}
use Rattle.sfen_text.proofs.BoardFaults.{cells_spelled}
use Rattle.sfen_text.proofs.HandsFaults.{byte_is, hands_spelled}
use Rattle.sfen_text.proofs.FieldsSpelled.{all_of_both, spaces_blank, leading_all, end_dropped, digits_solid, board_two, hands_begun, fields_read}
use Rattle.sfen_text.proofs.FieldsFound.{reading_as, short_front, long_front, no_more, fields_of, are_read, steps, fields_steps}

-- ---- what is spelled is read

-- A text with a solid byte at its end.
record Solid (text : List ℕ) : Type 0 where
  front : List ℕ
  first : ℕ
  others : List ℕ
  parts : text ≡ front ++ first ∷ others
  solid : AreSolid (first ∷ others)

solid_behind : (front text : List ℕ) → Solid text → Solid (front ++ text)
solid_behind front text is = record {
  front = front ++ is.front;
  first = is.first;
  others = is.others;
  parts = ap (λ (t : List ℕ). front ++ t) is.parts ∙ sym (append_assoc front is.front (is.first ∷ is.others));
  solid = is.solid;
}

solid_digits : (digits : List ℕ) → IsNumber digits → Solid digits
solid_digits [] is = absurd (is.0 refl)
solid_digits (x ∷ xs) is = record { front = []; first = x; others = xs; parts = refl; solid = digits_solid (x ∷ xs) is.2 }

solid_end : (hands end : List ℕ) → Begun hands → IsEnd end → Solid (hands ++ end)
solid_end hands end begun (inl none) = record { front = []; first = begun.first; others = begun.others; parts = ap (λ (t : List ℕ). hands ++ t) none ∙ append-nil hands ∙ begun.parts; solid = begun.solid }
solid_end hands end begun (inr (gap, digits, parts, is_gap, number)) = subst (λ (t : List ℕ). Solid (hands ++ t)) (sym parts) (solid_behind hands (gap ++ digits) (solid_behind gap digits (solid_digits digits number)))

dropped : (text after : List ℕ) → Solid text → list_all is_blank after ≡ true → without_end_blanks (text ++ after) ≡ text
dropped text after is blank = ap (λ (t : List ℕ). without_end_blanks (t ++ after)) is.parts ∙ end_dropped is.front is.first is.others after is.solid blank ∙ sym is.parts

with_front : (input before front text after : List ℕ) (x : ℕ) (xs : List ℕ) (r : Result Board TextFault) → input ≡ before ++ ((front ++ text) ++ after) → front ≡ x ∷ xs → is_blank x ≡ false
    → list_all is_blank before ≡ true → list_all is_blank after ≡ true → Solid text → front_len (front ++ text) ≡ length front → ((at : ℕ) → fields_at at text ≡ r) → input_parts input ≡ r
with_front input before front text after x xs r parts begins solid_first is_before is_after solid word good =
    let blanks : leading is_blank input ≡ length before = ap (leading is_blank) (parts ∙ ap (λ (t : List ℕ). before ++ ((t ++ text) ++ after)) begins) ∙ leading_all is_blank before x ((xs ++ text) ++ after) is_before solid_first in
    reading_as input before ((front ++ text) ++ after) (front ++ text) (length front) parts blanks (dropped (front ++ text) after (solid_behind front text solid) is_after) word
    ∙ ap (fields_at (length before + length front)) (drop_at front text (length front) refl) ∙ good (length before + length front)

without_front : (input before text after : List ℕ) (x : ℕ) (xs : List ℕ) (r : Result Board TextFault) → input ≡ before ++ (text ++ after) → text ≡ x ∷ xs → is_blank x ≡ false
    → list_all is_blank before ≡ true → list_all is_blank after ≡ true → Solid text → front_len text ≡ 0 → ((at : ℕ) → fields_at at text ≡ r) → input_parts input ≡ r
without_front input before text after x xs r parts begins solid_first is_before is_after solid word good =
    let blanks : leading is_blank input ≡ length before = ap (leading is_blank) (parts ∙ ap (λ (t : List ℕ). before ++ (t ++ after)) begins) ∙ leading_all is_blank before x (xs ++ after) is_before solid_first in
    reading_as input before (text ++ after) text 0 parts blanks (dropped text after solid is_after) word
    ∙ ap (fields_at (length before + 0)) (drop_none text) ∙ good (length before + 0)

pub parts_read : PlacesInHand → (input : List ℕ) (p : Board) → Spells input p → length p.cells ≡ 81 → length p.black ≡ 7 → length p.white ≡ 7 → input_parts input ≡ Ok p
parts_read in_hand input p s cells black white = go s.is_front where
  behind : List ℕ
  behind = s.gap ++ (side_letter p.side ∷ (s.next_gap ++ (s.hands ++ s.end)))

  core : List ℕ
  core = s.board ++ behind

  two : Two s.board
  two = board_two s.board p.cells s.is_board

  parts : input ≡ s.before ++ (s.front ++ (s.spaces ++ (core ++ s.after)))
  parts = s.parts ∙ simp append_assoc

  solid : Solid core
  solid = solid_behind s.board behind (solid_behind s.gap (side_letter p.side ∷ (s.next_gap ++ (s.hands ++ s.end))) (solid_behind (side_letter p.side ∷ []) (s.next_gap ++ (s.hands ++ s.end)) (solid_behind s.next_gap (s.hands ++ s.end)
      (solid_end s.hands s.end (hands_begun s.hands p.black p.white s.is_hands) s.is_end))))

  good : (spaces : List ℕ) → list_all is_space spaces ≡ true → (at : ℕ) → fields_at at (spaces ++ core) ≡ Ok p
  good spaces all at = fields_read in_hand at p spaces s.board s.gap s.next_gap s.hands s.end cells black white all s.is_board s.is_gap s.is_next_gap s.is_hands s.is_end

  worded : (word : List ℕ) (x : ℕ) (xs : List ℕ) → s.front ≡ word → word ≡ x ∷ xs → is_blank x ≡ false → front_len (word ++ (s.spaces ++ core)) ≡ length word → input_parts input ≡ Ok p
  worded word x xs is begins solid_first size =
      with_front input s.before word (s.spaces ++ core) s.after x xs (Ok p)
      (parts ∙ ap (λ (t : List ℕ). s.before ++ (t ++ (s.spaces ++ (core ++ s.after)))) is ∙ ap (λ (t : List ℕ). s.before ++ t) (ap (λ (t : List ℕ). word ++ t) (sym (append_assoc s.spaces core s.after)) ∙ sym (append_assoc word (s.spaces ++ core) s.after)))
      begins solid_first s.is_before s.is_after (solid_behind s.spaces core solid) size (good s.spaces s.is_spaces)

  go : IsFrontWord s.front → input_parts input ≡ Ok p
  go (inl none) =
      without_front input (s.before ++ s.spaces) core s.after two.first ((two.second ∷ two.others) ++ behind) (Ok p)
      (parts ∙ ap (λ (t : List ℕ). s.before ++ (t ++ (s.spaces ++ (core ++ s.after)))) none ∙ sym (append_assoc s.before s.spaces (core ++ s.after)))
      (ap (λ (t : List ℕ). t ++ behind) two.parts) (no_blank two.first two.plain.0.above)
      (all_of_both is_blank s.before s.spaces s.is_before (spaces_blank s.spaces s.is_spaces)) s.is_after solid (no_words s.board behind two) (good [] refl)
  go (inr (inl short)) = worded (codes "sfen ") 115 (102 ∷ 101 ∷ 110 ∷ 32 ∷ []) short refl refl (short_front (s.spaces ++ core))
  go (inr (inr long)) = worded (codes "position sfen ") 112 (111 ∷ 115 ∷ 105 ∷ 116 ∷ 105 ∷ 111 ∷ 110 ∷ 32 ∷ 115 ∷ 102 ∷ 101 ∷ 110 ∷ 32 ∷ []) long refl refl (long_front (s.spaces ++ core))

pub text_read : PlacesInHand → (input : List ℕ) (p : Board) → Spells input p → IsKept p → input_parts input ≡ Ok p
text_read in_hand input p s kept = parts_read in_hand input p s kept.cells kept.black kept.white

-- ---- what is read is spelled so

pub side_is : (at : ℕ) (text : List ℕ) (side : Side) → side_at at text ≡ Ok side → text ≡ side_letter side ∷ []
unfolding side_at
side_is at text side e = black (is_byte 98 text) refl e where
  white : (b : Bool) → is_byte 119 text ≡ b → cond {A = Result Side TextFault} b (Ok White) (Err (faults.BadSide at)) ≡ Ok side → text ≡ side_letter side ∷ []
  white true t h = let same : White ≡ side = cc in byte_is 119 text t ∙ ap (λ (s : Side). side_letter s ∷ []) same
  white false t h = absurd cc

  black : (b : Bool) → is_byte 98 text ≡ b → cond {A = Result Side TextFault} b (Ok Black) (cond (is_byte 119 text) (Ok White) (Err (faults.BadSide at))) ≡ Ok side → text ≡ side_letter side ∷ []
  black true t h = let same : Black ≡ side = cc in byte_is 98 text t ∙ ap (λ (s : Side). side_letter s ∷ []) same
  black false t h = white (is_byte 119 text) refl h

some_hands : (at : ℕ) (text : List ℕ) (hands : List ℕ × List ℕ) → hands_of at text ≡ Ok hands → (x : ℕ) × (xs : List ℕ) × (text ≡ x ∷ xs)
unfolding hands_of
some_hands at [] hands e = absurd cc
some_hands at (x ∷ xs) hands e = (x, xs, refl)

-- Two fields have a gap between them.
gap_there : (at : ℕ) (text : List ℕ) (f : Field) (x : ℕ) (xs : List ℕ) → (is : HasField at text f) → BeginsWithNo in_field text → f.text ≡ x ∷ xs → IsGap is.spaces
gap_there at text f x xs is stops begins = (
  λ nothing. absurd (
      let parts : text ≡ x ∷ (xs ++ f.rest) = is.parts ∙ ap (λ (t : List ℕ). t ++ (f.text ++ f.rest)) nothing ∙ ap (λ (t : List ℕ). t ++ f.rest) begins in
      let inside : list_all in_field (x ∷ xs) ≡ true = subst (λ (t : List ℕ). list_all in_field t ≡ true) begins is.no_space in
      let own : in_field x ≡ true = (and_parts (in_field x) (list_all in_field xs) inside).0 in
      let not_own : in_field x ≡ false = stops x (xs ++ f.rest) parts in
      cc),
  is.is_spaces,
)

-- Where there is no further field there are only spaces.
only_spaces : (at : ℕ) (text : List ℕ) (f : Field) → HasField at text f → f.text ≡ [] → list_all is_space text ≡ true
only_spaces at text f is nothing =
    let no_rest : f.rest ≡ [] = no_more f.rest (subst (λ (t : List ℕ). BeginsWithNo is_space (t ++ f.rest)) nothing is.all_spaces) is.whole in
    ap (list_all is_space) (is.parts ∙ ap (λ (t : List ℕ). is.spaces ++ (t ++ f.rest)) nothing ∙ ap (λ (t : List ℕ). is.spaces ++ t) no_rest ∙ append-nil is.spaces) ∙ is.is_spaces

-- What stands behind the hands, and the blanks at the end.
record EndIs (text : List ℕ) : Type 0 where
  end : List ℕ
  after : List ℕ
  parts : text ≡ end ++ after
  is_end : IsEnd end
  is_after : list_all is_blank after ≡ true

end_is : (at : ℕ) (text : List ℕ) (number more over : Field) → HasField at text number → HasField (end_of number) number.rest more → more ≡ next_of number → BeginsWithNo in_field text → end_outcome number ≡ Ok over → EndIs text
unfolding end_outcome
end_is at text number more over is next same stops e = elim (cases_Bool (is_number number.text)) [
  | inr f ↦ absurd (let h = rw f at e in cc)
  | inl t ↦ elim (eqb_tells (length more.text) 0) [
    | inr some ↦ absurd (let h = rw (t, ← same, some.0) at e in cc)
    | inl last ↦ go number.text refl t (nil_from_length more.text last.1)
  ]
] where
  go : (own : List ℕ) → number.text ≡ own → is_number number.text ≡ true → more.text ≡ [] → EndIs text
  go [] nothing t last = record { end = []; after = text; parts = refl; is_end = inl refl; is_after = spaces_blank text (only_spaces at text number is nothing) }
  go (x ∷ xs) some t last =
      let digits = and_parts (nat_le (length number.text) 9) (list_all is_digit number.text) t in
      let few : length number.text ≤ 9 = grind (arith, nat_tests, digits.0) in
      record {
        end = is.spaces ++ number.text;
        after = number.rest;
        parts = is.parts ∙ sym (append_assoc is.spaces number.text number.rest);
        is_end = inr (is.spaces, number.text, refl, gap_there at text number x xs is stops some, (λ nothing. absurd (let h = sym some ∙ nothing in cc), few, digits.1));
        is_after = spaces_blank number.rest (only_spaces (end_of number) number.rest more next last);
      }

bind_ok : {A B : Type 0} (r : Result A TextFault) (f : A → Result B TextFault) (y : B) → r >>= f ≡ Ok y → (x : A) × (r ≡ Ok x) × (f x ≡ Ok y)
bind_ok (Ok x) f y e = (x, refl, e)
bind_ok (Err fault) f y e = absurd cc

abbrev well : Board → Result Board TextFault
well b = Ok b

well_same : (a b : Board) → well a ≡ well b → a ≡ b
well_same a b e = cc

-- What was found in the fields of a position.
pub record Found (board turn hands number : Field) (p : Board) : Type 0 where
  pub cells : cells_at board.at board.text ≡ Ok p.cells
  pub side : side_at turn.at turn.text ≡ Ok p.side
  pub both : hands_of hands.at hands.text ≡ Ok (p.black, p.white)
  pub over : Field
  pub good : end_outcome number ≡ Ok over

-- What each step gave is what the position has of it.
found_with : (board turn hands number : Field) (p : Board) (cells : List (Option Piece)) (side : Side) (both : List ℕ × List ℕ) (over : Field)
    → cells_at board.at board.text ≡ Ok cells → side_at turn.at turn.text ≡ Ok side → hands_of hands.at hands.text ≡ Ok both → end_outcome number ≡ Ok over
    → well (record { cells = cells; black = both.0; white = both.1; side = side }) ≡ well p → Found board turn hands number p
found_with board turn hands number p cells side both over c s h o e =
    let same : record { cells = cells; black = both.0; white = both.1; side = side } ≡ p = well_same (record { cells = cells; black = both.0; white = both.1; side = side }) p e in
    record {
      cells = c ∙ ap (λ (q : Board). Ok q.cells) same;
      side = s ∙ ap (λ (q : Board). Ok q.side) same;
      both = h ∙ ap (λ (q : Board). Ok (q.black, q.white)) same;
      over = over;
      good = o;
    }

found : (board turn hands number : Field) (p : Board) → steps board turn hands number ≡ Ok p → Found board turn hands number p
found board turn hands number p e =
    let last = λ (cells : List (Option Piece)) (side : Side) (both : List ℕ × List ℕ) (over : Field). well (record { cells = cells; black = both.0; white = both.1; side = side }) in
    let c = bind_ok (cells_at board.at board.text) (λ cells. side_at turn.at turn.text >>= (λ side. hands_of hands.at hands.text >>= (λ both. end_outcome number >>= last cells side both))) p e in
    let s = bind_ok (side_at turn.at turn.text) (λ side. hands_of hands.at hands.text >>= (λ both. end_outcome number >>= last c.0 side both)) p c.2 in
    let h = bind_ok (hands_of hands.at hands.text) (λ both. end_outcome number >>= last c.0 s.0 both) p s.2 in
    let o = bind_ok (end_outcome number) (last c.0 s.0 h.0) p h.2 in
    found_with board turn hands number p c.0 s.0 h.0 o.0 c.1 s.1 h.1 o.1 o.2

-- What is found in the fields of an input that stands for a position.
pub found_in : (input : List ℕ) (fs : FieldsOf input) (p : Board) → input_parts input ≡ Ok p → Found fs.board fs.side fs.hands fs.number p
found_in input fs p e =
    let are = are_read input fs in
    found fs.board fs.side fs.hands fs.number p (sym (are.whole ∙ fields_steps fs.at fs.text fs.board fs.side fs.hands fs.number are.board are.side are.hands are.number) ∙ e)

spelled_with : PlacesInHand → (input : List ℕ) (fs : FieldsOf input) (p : Board) → Found fs.board fs.side fs.hands fs.number p → Spells input p
spelled_with in_hand input fs p f =
    let w = fs.within in
    let side = side_is fs.side.at fs.side.text p.side f.side in
    let some = some_hands fs.hands.at fs.hands.text (p.black, p.white) f.both in
    let last = end_is (end_of fs.hands) fs.hands.rest fs.number fs.more f.over fs.is_number fs.is_more (are_read input fs).more fs.is_hands.whole f.good in
    let text : fs.text ≡ fs.is_board.spaces ++ (fs.board.text ++ (fs.is_side.spaces ++ (side_letter p.side ∷ (fs.is_hands.spaces ++ (fs.hands.text ++ (last.end ++ last.after))))))
    = fs.is_board.parts
    ∙ ap (λ (t : List ℕ). fs.is_board.spaces ++ (fs.board.text ++ t)) (fs.is_side.parts ∙ ap (λ (t : List ℕ). fs.is_side.spaces ++ (t ++ fs.side.rest)) side)
    ∙ ap (λ (t : List ℕ). fs.is_board.spaces ++ (fs.board.text ++ (fs.is_side.spaces ++ (side_letter p.side ∷ t)))) (fs.is_hands.parts ∙ ap (λ (t : List ℕ). fs.is_hands.spaces ++ (fs.hands.text ++ t)) last.parts) in
    let whole : input ≡ w.before ++ ((w.front ++ (fs.is_board.spaces ++ (fs.board.text ++ (fs.is_side.spaces ++ (side_letter p.side ∷ (fs.is_hands.spaces ++ (fs.hands.text ++ (last.end ++ last.after)))))))) ++ w.after)
    = w.parts ∙ ap (λ (t : List ℕ). w.before ++ ((w.front ++ t) ++ w.after)) text in
    record {
      before = w.before;
      front = w.front;
      spaces = fs.is_board.spaces;
      board = fs.board.text;
      gap = fs.is_side.spaces;
      next_gap = fs.is_hands.spaces;
      hands = fs.hands.text;
      end = last.end;
      after = last.after ++ w.after;
      parts = whole ∙ simp append_assoc;
      is_before = w.is_before;
      is_front = w.is_front;
      is_spaces = fs.is_board.is_spaces;
      is_board = cells_spelled fs.board p.cells f.cells;
      is_gap = gap_there (end_of fs.board) fs.board.rest fs.side (side_letter p.side) [] fs.is_side fs.is_board.whole side;
      is_next_gap = gap_there (end_of fs.side) fs.side.rest fs.hands some.0 some.1 fs.is_hands fs.is_side.whole some.2;
      is_hands = hands_spelled in_hand fs.hands (p.black, p.white) f.both;
      is_end = last.is_end;
      is_after = all_of_both is_blank last.after w.after last.is_after w.is_after;
    }

pub text_spelled : PlacesInHand → (input : List ℕ) (p : Board) → input_parts input ≡ Ok p → Spells input p
text_spelled in_hand input p e = spelled_with in_hand input (fields_of input) p (found_in input (fields_of input) p e)

-- ---- the outcome

outcome_from : PlacesInHand → (input : List ℕ) (read : Result Board TextFault) (p : Board) → input_parts input ≡ read → IsOutcomeOf read (Ok p) → Spells input p
outcome_from in_hand input (Ok b) p e is = text_spelled in_hand input p (e ∙ ap (λ (q : Board). Ok q) (sym is.0))
outcome_from in_hand input (Err fault) p e is = absurd cc

pub outcome_spelled : PlacesInHand → (input : List ℕ) (outcome : Result Board TextFault) → IsOutcomeOf (input_parts input) outcome → IfOk outcome (λ p. Spells input p)
outcome_spelled in_hand input (Ok p) is = outcome_from in_hand input (input_parts input) p refl is
outcome_spelled in_hand input (Err fault) is = tt

pub spelled_outcome : PlacesInHand → (input : List ℕ) (outcome : Result Board TextFault) → IsOutcomeOf (input_parts input) outcome → (p : Board) → Spells input p → IsKept p → HasDefender p → outcome ≡ Ok p
spelled_outcome in_hand input outcome is p spells kept king = outcome_again p outcome kept king (subst (λ (r : Result Board TextFault). IsOutcomeOf r outcome) (text_read in_hand input p spells kept) is)
