-- What is read is the outcome to its input, and no other is.
use Rattle.std.proofs.Common.{◌≡◌, ◌≢◌, ◌⊎◌, inl, inr, ℕ, ◌+◌, ◌≤◌, Bool, true, false, cond, List, [], ◌∷◌, ◌++◌, length, Option, Result, None, Ok, Err, refl, sym, ap, subst, ◌∙◌, arith}
use Rattle.std.specs.Prelude.{nat_le, slice_set, ◌==◌}
use Rattle.std.specs.List.{flat_map, list_all, range_with_len}
use Rattle.std.proofs.Math.Dec.{eqb-suc-zero}
use Rattle.std.proofs.lemmas.Bool.{and_parts, cases_Bool}
use Rattle.std.proofs.lemmas.Bool.Decides.{nat_tests}
use Rattle.std.proofs.lemmas.List.{length-set}
use Rattle.std.proofs.lemmas.List.FromFn.{length-map-range_with_len}
use Rattle.bit_boards.specs.declared.piece.Side.{Side}
use Rattle.bit_boards.specs.declared.piece.Side.TheVariants.{Black, White}
use Rattle.bit_boards.specs.declared.piece.Piece.{Piece}
use Rattle.board_core.specs.declared.build.BadPosition.{BadPosition as Bad}
use Rattle.board_core.specs.Laws.{BuiltOnce, PlacesInHand}
use Rattle.bit_boards.specs.Kind.{place_of}
use Rattle.board_core.specs.Board.{Board, piece_at, hand_count}
use Rattle.board_core.specs.Kept.{IsKept}
use Rattle.board_core.specs.Build.{IsBuilt}
use Rattle.sfen_text.specs.declared.fault.TextFault.{TextFault}
use Rattle.sfen_text.specs.declared.fault.TextFault.TheVariants as faults
use Rattle.sfen_text.specs.Bytes.{is_digit, is_space}
use Rattle.sfen_text.specs.Spelling.{cells_of_row}
use Rattle.sfen_text.specs.Spells.{IsNumber, Spells}
use Rattle.sfen_text.specs.Fields.{BeginsWithNo, Field, end_of, HasField, FieldsOf}
use Rattle.sfen_text.specs.Faults.{HasBadSide, HasTrailing, IsBoardField, IsSideField, IsHandsField, SpellsParts, HasFirstTextFault, IsReadingOutcome}
use Rattle.sfen_text.specs.Signs.{signs, squares, reading_place, cells_of}
use Rattle.sfen_text.specs.Hands.{Items, none, item, broken, items, is_byte, hands_with, hands_of, empty_hand}
use Rattle.sfen_text.specs.Reading.{◌>>=◌, next_of, cells_at, side_at, is_number, end_outcome, input_parts, IsOutcomeOf}
use Rattle.sfen_text.proofs.Fields.{bad_cells, bad_side, bad_hands, bad_end}
use Rattle.sfen_text.proofs.TextAgain.{side_again, ok_same}
use Rattle.sfen_text.proofs.BoardSpelled.{board_read}
use Rattle.sfen_text.proofs.HandsSpelled.{spelled_hands}
use Rattle.sfen_text.proofs.TextSpelled.{parts_read, text_read, found_in, side_is, text_spelled}
use Rattle.sfen_text.proofs.FieldsFound.{no_more, fields_of, AreRead, are_read, fields_steps}
use Rattle.sfen_text.proofs.BoardFaults.{cells_spelled, bad_row_found, bad_piece_found, HasBoardFault, board_fault_there}
use Rattle.sfen_text.proofs.HandsFaults.{byte_is, nothing_both, hands_spelled, bad_hand_found, twice_found, HasHandsFault, hands_fault_there}

-- ---- the side to move

HasSideFault : Field → TextFault → Type 0
HasSideFault turn fault = (here : ℕ) × (fault ≡ faults.BadSide here) × HasBadSide turn here

side_fault_there : (turn : Field) (fault : TextFault) → side_at turn.at turn.text ≡ Err fault → HasSideFault turn fault
unfolding HasSideFault side_at
side_fault_there turn fault e = black (is_byte 98 turn.text) refl e where
  there : fault ≡ faults.BadSide turn.at → HasSideFault turn fault
  there same = (turn.at, same, record { no_side = λ side is. absurd (let h : side_at turn.at turn.text ≡ Ok side = ap (side_at turn.at) is ∙ side_again side turn.at in not_both side h); place = refl }) where
    not_both : (side : Side) → side_at turn.at turn.text ≡ Ok side → ⊥
    not_both side h = absurd (let g = sym e ∙ h in cc)

  white : (b : Bool) → is_byte 119 turn.text ≡ b → cond {A = Result Side TextFault} b (Ok White) (Err (faults.BadSide turn.at)) ≡ Err fault → HasSideFault turn fault
  white true t h = absurd cc
  white false t h = there cc

  black : (b : Bool) → is_byte 98 turn.text ≡ b → cond {A = Result Side TextFault} b (Ok Black) (cond (is_byte 119 turn.text) (Ok White) (Err (faults.BadSide turn.at))) ≡ Err fault → HasSideFault turn fault
  black true t h = absurd cc
  black false t h = white (is_byte 119 turn.text) refl h

bad_side_found : (turn : Field) (here : ℕ) → HasBadSide turn here → side_at turn.at turn.text ≡ Err (faults.BadSide here)
unfolding side_at
bad_side_found turn here is = elim (cases_Bool (is_byte 98 turn.text)) [
  | inl black ↦ absurd (is.no_side Black (byte_is 98 turn.text black))
  | inr no_black ↦ elim (cases_Bool (is_byte 119 turn.text)) [
    | inl white ↦ absurd (is.no_side White (byte_is 119 turn.text white))
    | inr no_white ↦ rw (no_black, no_white) (ap (λ (k : ℕ). Err (faults.BadSide k)) (sym is.place))
  ]
]

-- ---- what stands behind the hands

HasEndFault : Field → Field → TextFault → Type 0
HasEndFault number more fault = (here : ℕ) × (fault ≡ faults.Trailing here) × HasTrailing number more here

number_is : (text : List ℕ) → IsNumber text → is_number text ≡ true
number_is text is = let few = is.1 in let fits : nat_le (length text) 9 ≡ true = grind (arith, nat_tests, few) in rw fits is.2

is_number_of : (text : List ℕ) → text ≢ [] → is_number text ≡ true → IsNumber text
is_number_of text some e =
    let parts = and_parts (nat_le (length text) 9) (list_all is_digit text) e in
    let few : length text ≤ 9 = grind (arith, nat_tests, parts.0) in
    (some, few, parts.1)

no_length : (xs : List ℕ) → (length xs == 0) ≡ false → xs ≢ []
no_length [] h = absurd (let t : (0 == 0) ≡ true = refl in cc)
no_length (x ∷ xs) h = λ e. cc

some_length : (xs : List ℕ) → xs ≢ [] → (length xs == 0) ≡ false
some_length [] h = absurd (h refl)
some_length (x ∷ xs) h = eqb-suc-zero (length xs)

-- Behind a field that isn't there comes none.
none_behind : (at : ℕ) (text : List ℕ) (number more : Field) → HasField at text number → HasField (end_of number) number.rest more → number.text ≡ [] → more.text ≡ []
none_behind at text number more is next nothing =
    let no_rest : number.rest ≡ [] = no_more number.rest (subst (λ (t : List ℕ). BeginsWithNo is_space (t ++ number.rest)) nothing is.all_spaces) is.whole in
    let both = nothing_both next.spaces (more.text ++ more.rest) (sym next.parts ∙ no_rest) in
    (nothing_both more.text more.rest both.1).0

abbrev no_field : TextFault → Result Field TextFault
no_field fault = Err fault

end_fault_there : (at : ℕ) (text : List ℕ) (number more : Field) (fault : TextFault) → HasField at text number → HasField (end_of number) number.rest more → more ≡ next_of number → end_outcome number ≡ Err fault → HasEndFault number more fault
unfolding HasEndFault end_outcome
end_fault_there at text number more fault is next same e = elim (cases_Bool (is_number number.text)) [
  | inl t ↦ elim (cases_Bool (length more.text == 0)) [
    | inl over ↦ absurd (let h = rw (t, ← same, over) at e in cc)
    | inr some ↦
        let h : no_field (faults.Trailing more.at) ≡ no_field fault = rw (t, ← same, some) at e in
        let left = no_length more.text some in
        (more.at, cc, inr (is_number_of number.text (λ nothing. left (none_behind at text number more is next nothing)) t, left, refl))
  ]
  | inr f ↦
      let h : no_field (faults.Trailing number.at) ≡ no_field fault = rw f at e in
      (number.at, cc, inl (λ nothing. not_number nothing f, λ n. absurd (let g = number_is number.text n in cc), refl))
] where
  not_number : number.text ≡ [] → is_number number.text ≡ false → ⊥
  not_number nothing f = absurd (let g : is_number number.text ≡ true = ap is_number nothing in cc)

trailing_found : (number more : Field) (here : ℕ) → more ≡ next_of number → HasTrailing number more here → end_outcome number ≡ Err (faults.Trailing here)
unfolding end_outcome
trailing_found number more here same (inl (some, none_there, place)) = elim (cases_Bool (is_number number.text)) [
  | inl t ↦ absurd (none_there (is_number_of number.text some t))
  | inr f ↦ rw f (ap (λ (k : ℕ). Err (faults.Trailing k)) (sym place))
]
trailing_found number more here same (inr (is, some, place)) = rw (number_is number.text is, ← same, some_length more.text some) (ap (λ (k : ℕ). Err (faults.Trailing k)) (sym place))

-- ---- sizes

cells_size : (at : ℕ) (text : List ℕ) (cells : List (Option Piece)) → cells_at at text ≡ Ok cells → length cells ≡ 81
unfolding cells_at cells_of
cells_size at text cells e = go (squares (at + length text) 8 9 (signs at text)) e where
  go : (r : Result (List (Option Piece)) TextFault) → r >>= (λ read. Ok (cells_of read)) ≡ Ok cells → length cells ≡ 81
  go (Ok read) h = let same : cells_of read ≡ cells = cc in ap length (sym same) ∙ length-map-range_with_len (λ square. piece_at read (reading_place square)) 0 81
  go (Err fault) h = absurd cc

abbrev AreSeven : List ℕ × List ℕ → Type 0
AreSeven hands = (length hands.0 ≡ 7) × (length hands.1 ≡ 7)

with_size : (list : Items) (b w : List ℕ) (hands : List ℕ × List ℕ) → length b ≡ 7 → length w ≡ 7 → hands_with b w list ≡ Ok hands → AreSeven hands
unfolding hands_with
with_size none b w hands b7 w7 e = let same : (b, w) ≡ hands = cc in subst AreSeven same (b7, w7)
with_size (broken start) b w hands b7 w7 e = absurd cc
with_size (item at n Black kind rest) b w hands b7 w7 e = elim (cases_Bool (hand_count b kind == 0)) [
  | inl t ↦ with_size rest (slice_set b (place_of kind) n) w hands (length-set b (place_of kind) n ∙ b7) w7 (rw t at e)
  | inr f ↦ absurd (let h = rw f at e in cc)
]
with_size (item at n White kind rest) b w hands b7 w7 e = elim (cases_Bool (hand_count w kind == 0)) [
  | inl t ↦ with_size rest b (slice_set w (place_of kind) n) hands b7 (length-set w (place_of kind) n ∙ w7) (rw t at e)
  | inr f ↦ absurd (let h = rw f at e in cc)
]

abbrev both_hands : List ℕ × List ℕ → Result (List ℕ × List ℕ) TextFault
both_hands hands = Ok hands

hands_size : (at : ℕ) (text : List ℕ) (hands : List ℕ × List ℕ) → hands_of at text ≡ Ok hands → AreSeven hands
unfolding hands_of
hands_size at text hands e = elim (cases_Bool (length text == 0)) [
  | inl t ↦ absurd (let h = rw t at e in cc)
  | inr some ↦ elim (cases_Bool (is_byte 45 text)) [
    | inl dash ↦ let h : both_hands (empty_hand, empty_hand) ≡ both_hands hands = rw (some, dash) at e in let same : (empty_hand, empty_hand) ≡ hands = cc in subst AreSeven same (refl, refl)
    | inr no_dash ↦ with_size (items at None at text) empty_hand empty_hand hands refl refl (rw (some, no_dash) at e)
  ]
]

-- ---- a fault that is found is there

bind_err : {A B : Type 0} (r : Result A TextFault) (f : A → Result B TextFault) (fault : TextFault) → r >>= f ≡ Err fault → (r ≡ Err fault) ⊎ ((x : A) × (r ≡ Ok x) × (f x ≡ Err fault))
bind_err (Ok x) f fault e = inr (x, refl, e)
bind_err (Err found) f fault e = inl (let same : found ≡ fault = cc in ap (λ (g : TextFault). Err g) same)

of_board : (input : List ℕ) (fs : FieldsOf input) (fault : TextFault) → HasBoardFault fs.board fault → HasFirstTextFault input fault
of_board input fs (faults.BadRow here) is = (fs, is)
of_board input fs (faults.BadPiece here) is = (fs, is)
of_board input fs (faults.BadSide here) is = absurd is
of_board input fs (faults.BadHand here) is = absurd is
of_board input fs (faults.HandTwice here) is = absurd is
of_board input fs (faults.Trailing here) is = absurd is
of_board input fs (faults.BadPosition fault) is = absurd is

of_side : (input : List ℕ) (fs : FieldsOf input) (fault : TextFault) → IsBoardField fs.board → HasSideFault fs.side fault → HasFirstTextFault input fault
unfolding HasSideFault
of_side input fs fault board (here, same, is) = subst (HasFirstTextFault input) (sym same) (fs, board, is)

of_hands : (input : List ℕ) (fs : FieldsOf input) (fault : TextFault) → IsBoardField fs.board → IsSideField fs.side → HasHandsFault fs.hands fault → HasFirstTextFault input fault
of_hands input fs (faults.BadHand here) board side is = (fs, board, side, is)
of_hands input fs (faults.HandTwice here) board side is = (fs, board, side, is)
of_hands input fs (faults.BadRow here) board side is = absurd is
of_hands input fs (faults.BadPiece here) board side is = absurd is
of_hands input fs (faults.BadSide here) board side is = absurd is
of_hands input fs (faults.Trailing here) board side is = absurd is
of_hands input fs (faults.BadPosition fault) board side is = absurd is

of_end : (input : List ℕ) (fs : FieldsOf input) (fault : TextFault) → IsBoardField fs.board → IsSideField fs.side → IsHandsField fs.hands → HasEndFault fs.number fs.more fault → HasFirstTextFault input fault
unfolding HasEndFault
of_end input fs fault board side hands (here, same, is) = subst (HasFirstTextFault input) (sym same) (fs, board, side, hands, is)

hands_field : PlacesInHand → (hands : Field) (both : List ℕ × List ℕ) → hands_of hands.at hands.text ≡ Ok both → IsHandsField hands
hands_field in_hand hands both e = let size = hands_size hands.at hands.text both e in (both.0, both.1, size.0, size.1, hands_spelled in_hand hands both e)

fault_there : PlacesInHand → (input : List ℕ) (fault : TextFault) → input_parts input ≡ Err fault → HasFirstTextFault input fault
fault_there in_hand input fault e = first (bind_err (cells_at board.at board.text) after_board fault whole) where
  fs : FieldsOf input
  fs = fields_of input

  board : Field
  board = fs.board

  turn : Field
  turn = fs.side

  hands : Field
  hands = fs.hands

  number : Field
  number = fs.number

  are : AreRead fs
  are = are_read input fs

  after_hands : List (Option Piece) → Side → List ℕ × List ℕ → Result Board TextFault
  after_hands cells side both = end_outcome number >>= (λ over. Ok (record { cells = cells; black = both.0; white = both.1; side = side }))

  after_side : List (Option Piece) → Side → Result Board TextFault
  after_side cells side = hands_of hands.at hands.text >>= (λ both. after_hands cells side both)

  after_board : List (Option Piece) → Result Board TextFault
  after_board cells = side_at turn.at turn.text >>= (λ side. after_side cells side)

  whole : cells_at board.at board.text >>= after_board ≡ Err fault
  whole = sym (are.whole ∙ fields_steps fs.at fs.text board turn hands number are.board are.side are.hands are.number) ∙ e

  fourth : IsBoardField board → IsSideField turn → IsHandsField hands → (cells : List (Option Piece)) (side : Side) (both : List ℕ × List ℕ) → after_hands cells side both ≡ Err fault → HasFirstTextFault input fault
  fourth is_board is_side is_hands cells side both h = elim (bind_err (end_outcome number) (λ over. Ok (record { cells = cells; black = both.0; white = both.1; side = side })) fault h) [
    | inl bad ↦ of_end input fs fault is_board is_side is_hands (end_fault_there (end_of hands) hands.rest number fs.more fault fs.is_number fs.is_more are.more bad)
    | inr good ↦ absurd (let g = good.2 in cc)
  ]

  third : IsBoardField board → IsSideField turn → (cells : List (Option Piece)) (side : Side) → after_side cells side ≡ Err fault → HasFirstTextFault input fault
  third is_board is_side cells side h = elim (bind_err (hands_of hands.at hands.text) (λ both. after_hands cells side both) fault h) [
    | inl bad ↦ of_hands input fs fault is_board is_side (hands_fault_there in_hand hands fault bad)
    | inr good ↦ fourth is_board is_side (hands_field in_hand hands good.0 good.1) cells side good.0 good.2
  ]

  second : IsBoardField board → (cells : List (Option Piece)) → after_board cells ≡ Err fault → HasFirstTextFault input fault
  second is_board cells h = elim (bind_err (side_at turn.at turn.text) (λ side. after_side cells side) fault h) [
    | inl bad ↦ of_side input fs fault is_board (side_fault_there turn fault bad)
    | inr good ↦ third is_board (good.0, side_is turn.at turn.text good.0 good.1) cells good.0 good.2
  ]

  first : (cells_at board.at board.text ≡ Err fault) ⊎ ((cells : List (Option Piece)) × (cells_at board.at board.text ≡ Ok cells) × (after_board cells ≡ Err fault)) → HasFirstTextFault input fault
  first (inl bad) = of_board input fs fault (board_fault_there board fault bad)
  first (inr (cells, good, h)) = second (cells, cells_spelled board cells good) cells h

-- ---- a fault that is there is found

board_field_read : (board : Field) → IsBoardField board → (cells : List (Option Piece)) × (cells_at board.at board.text ≡ Ok cells)
unfolding cells_at
board_field_read board (cells, spells) =
    (cells_of (flat_map (cells_of_row cells) (range_with_len 1 9)), rw (board_read spells.0 board.text cells (end_of board) board.at spells.1 spells.2) refl)

side_field_read : (turn : Field) → IsSideField turn → (side : Side) × (side_at turn.at turn.text ≡ Ok side)
side_field_read turn (side, is) = (side, ap (side_at turn.at) is ∙ side_again side turn.at)

hands_field_read : PlacesInHand → (hands : Field) → IsHandsField hands → (both : List ℕ × List ℕ) × (hands_of hands.at hands.text ≡ Ok both)
hands_field_read in_hand hands (black, white, b7, w7, spells) = ((black, white), spelled_hands in_hand hands.text black white hands.at b7 w7 spells)

of_cells : (input : List ℕ) (fs : FieldsOf input) (fault : TextFault) → cells_at fs.board.at fs.board.text ≡ Err fault → input_parts input ≡ Err fault
of_cells input fs fault e = let are = are_read input fs in are.whole ∙ bad_cells fs.at fs.text fs.board fault are.board e

of_turn : (input : List ℕ) (fs : FieldsOf input) (fault : TextFault) → IsBoardField fs.board → side_at fs.side.at fs.side.text ≡ Err fault → input_parts input ≡ Err fault
of_turn input fs fault board e =
    let are = are_read input fs in
    let cells = board_field_read fs.board board in
    are.whole ∙ bad_side fs.at fs.text fs.board fs.side cells.0 fault are.board cells.1 are.side e

of_both : (input : List ℕ) (fs : FieldsOf input) (fault : TextFault) → IsBoardField fs.board → IsSideField fs.side → hands_of fs.hands.at fs.hands.text ≡ Err fault → input_parts input ≡ Err fault
of_both input fs fault board turn e =
    let are = are_read input fs in
    let cells = board_field_read fs.board board in
    let side = side_field_read fs.side turn in
    are.whole ∙ bad_hands fs.at fs.text fs.board fs.side fs.hands cells.0 side.0 fault are.board cells.1 are.side side.1 are.hands e

of_last : PlacesInHand → (input : List ℕ) (fs : FieldsOf input) (fault : TextFault) → IsBoardField fs.board → IsSideField fs.side → IsHandsField fs.hands → end_outcome fs.number ≡ Err fault → input_parts input ≡ Err fault
of_last in_hand input fs fault board turn hands e =
    let are = are_read input fs in
    let cells = board_field_read fs.board board in
    let side = side_field_read fs.side turn in
    let both = hands_field_read in_hand fs.hands hands in
    are.whole ∙ bad_end fs.at fs.text fs.board fs.side fs.hands fs.number cells.0 side.0 both.0 fault are.board cells.1 are.side side.1 are.hands both.1 are.number e

-- ---- the outcome

parts_spelled : PlacesInHand → (input : List ℕ) (b : Board) → input_parts input ≡ Ok b → SpellsParts input b
parts_spelled in_hand input b e =
    let fs = fields_of input in
    let f = found_in input fs b e in
    let hands = hands_size fs.hands.at fs.hands.text (b.black, b.white) f.both in
    record { spells = text_spelled in_hand input b e; cells = cells_size fs.board.at fs.board.text b.cells f.cells; black = hands.0; white = hands.1 }

pub outcome_there : PlacesInHand → (input : List ℕ) (outcome : Result Board TextFault) → IsOutcomeOf (input_parts input) outcome → IsReadingOutcome input outcome
outcome_there in_hand input outcome is = go (input_parts input) refl outcome is where
  go : (r : Result Board TextFault) → input_parts input ≡ r → (outcome : Result Board TextFault) → IsOutcomeOf r outcome → IsReadingOutcome input outcome
  go (Err fault) e outcome h = subst (IsReadingOutcome input) (sym h) (fault_there in_hand input fault e)
  go (Ok b) e (Ok p) h = subst (λ (q : Board). SpellsParts input q × IsBuilt q (Ok q)) (sym h.0) (parts_spelled in_hand input b e, (refl, h.1))
  go (Ok b) e (Err (faults.BadPosition fault)) h = (b, parts_spelled in_hand input b e, h)
  go (Ok b) e (Err (faults.BadRow here)) h = absurd h
  go (Ok b) e (Err (faults.BadPiece here)) h = absurd h
  go (Ok b) e (Err (faults.BadSide here)) h = absurd h
  go (Ok b) e (Err (faults.BadHand here)) h = absurd h
  go (Ok b) e (Err (faults.HandTwice here)) h = absurd h
  go (Ok b) e (Err (faults.Trailing here)) h = absurd h

spelled_parts_read : PlacesInHand → (input : List ℕ) (b : Board) → SpellsParts input b → input_parts input ≡ Ok b
spelled_parts_read in_hand input b s = parts_read in_hand input b s.spells s.cells s.black s.white

as_read : (input : List ℕ) (r outcome : Result Board TextFault) → input_parts input ≡ r → IsOutcomeOf r outcome → IsOutcomeOf (input_parts input) outcome
as_read input r outcome e is = subst (λ (x : Result Board TextFault). IsOutcomeOf x outcome) (sym e) is

-- An outcome is what is read.
outcome_read : PlacesInHand → (input : List ℕ) (outcome : Result Board TextFault) → IsReadingOutcome input outcome → IsOutcomeOf (input_parts input) outcome
outcome_read in_hand input (Ok p) (parts, built) = as_read input (Ok p) (Ok p) (spelled_parts_read in_hand input p parts) built
outcome_read in_hand input (Err (faults.BadRow here)) (fs, is) = as_read input (Err (faults.BadRow here)) (Err (faults.BadRow here)) (of_cells input fs (faults.BadRow here) (bad_row_found fs.board here is)) refl
outcome_read in_hand input (Err (faults.BadPiece here)) (fs, is) = as_read input (Err (faults.BadPiece here)) (Err (faults.BadPiece here)) (of_cells input fs (faults.BadPiece here) (bad_piece_found fs.board here is)) refl
outcome_read in_hand input (Err (faults.BadSide here)) (fs, board, is) = as_read input (Err (faults.BadSide here)) (Err (faults.BadSide here)) (of_turn input fs (faults.BadSide here) board (bad_side_found fs.side here is)) refl
outcome_read in_hand input (Err (faults.BadHand here)) (fs, board, turn, is) = as_read input (Err (faults.BadHand here)) (Err (faults.BadHand here)) (of_both input fs (faults.BadHand here) board turn (bad_hand_found in_hand fs.hands here is)) refl
outcome_read in_hand input (Err (faults.HandTwice here)) (fs, board, turn, is) = as_read input (Err (faults.HandTwice here)) (Err (faults.HandTwice here)) (of_both input fs (faults.HandTwice here) board turn (twice_found in_hand fs.hands here is)) refl
outcome_read in_hand input (Err (faults.Trailing here)) (fs, board, turn, hands, is) = as_read input (Err (faults.Trailing here)) (Err (faults.Trailing here)) (of_last in_hand input fs (faults.Trailing here) board turn hands (trailing_found fs.number fs.more here (are_read input fs).more is)) refl
outcome_read in_hand input (Err (faults.BadPosition fault)) (b, parts, is) = as_read input (Ok b) (Err (faults.BadPosition fault)) (spelled_parts_read in_hand input b parts) is

-- ---- one outcome

-- The outcome to what was built of the parts that were read.
abbrev as_text : Result Board Bad → Result Board TextFault
as_text (Ok p) = Ok p
as_text (Err fault) = Err (faults.BadPosition fault)

as_built : (b : Board) (outcome : Result Board TextFault) → IsOutcomeOf (Ok b) outcome → (built : Result Board Bad) × IsBuilt b built × (outcome ≡ as_text built)
as_built b (Ok p) is = (Ok p, is, refl)
as_built b (Err (faults.BadPosition fault)) is = (Err fault, is, refl)
as_built b (Err (faults.BadRow here)) is = absurd is
as_built b (Err (faults.BadPiece here)) is = absurd is
as_built b (Err (faults.BadSide here)) is = absurd is
as_built b (Err (faults.BadHand here)) is = absurd is
as_built b (Err (faults.HandTwice here)) is = absurd is
as_built b (Err (faults.Trailing here)) is = absurd is

one_of_read : BuiltOnce → (r x y : Result Board TextFault) → IsOutcomeOf r x → IsOutcomeOf r y → x ≡ y
one_of_read once (Err fault) x y p q = p ∙ sym q
one_of_read once (Ok b) x y p q =
    let one = as_built b x p in
    let two = as_built b y q in
    one.2 ∙ ap as_text (once b one.0 two.0 one.1 two.1) ∙ sym two.2

pub one_outcome : PlacesInHand → BuiltOnce → (input : List ℕ) (x y : Result Board TextFault) → IsReadingOutcome input x → IsReadingOutcome input y → x ≡ y
one_outcome in_hand once input x y p q = one_of_read once (input_parts input) x y (outcome_read in_hand input x p) (outcome_read in_hand input y q)

pub one_spelled : PlacesInHand → (input : List ℕ) (a b : Board) → IsKept a → IsKept b → Spells input a → Spells input b → a ≡ b
one_spelled in_hand input a b ka kb p q = ok_same a b (input_parts input) (text_read in_hand input a p ka) (text_read in_hand input b q kb)
