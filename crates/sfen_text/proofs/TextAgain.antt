-- What is written for a position is read as that position.
use Rattle.std.proofs.Common.{◌≡◌, ◌≢◌, inl, inr, ℕ, ◌+◌, ◌≤◌, false, List, [], ◌∷◌, ◌++◌, length, drop, Option, Result, None, Ok, Err, refl, sym, ap, subst, ◌∙◌, append_assoc, arith}
use Rattle.std.proofs.Math.Dec.{eqb-suc-zero}
use Rattle.std.proofs.lemmas.Bool.Decides.{eqb_tells}
use Rattle.std.proofs.lemmas.List.{append-nil}
use Rattle.board_laws.proofs.Kept.{no_fault}
use Rattle.bit_boards.specs.declared.piece.Piece.{Piece}
use Rattle.bit_boards.specs.declared.piece.Kind.TheVariants.{Pawn, Lance, Knight, Silver, Gold, Bishop, Rook, King}
use Rattle.bit_boards.specs.declared.piece.Side.{Side}
use Rattle.bit_boards.specs.declared.piece.Side.TheVariants.{Black, White}
use Rattle.bit_boards.specs.Kind.{other}
use Rattle.board_core.specs.Board.{HasDefender, Board}
use Rattle.board_core.specs.Kept.{IsKept}
use Rattle.sfen_text.specs.declared.fault.TextFault.{TextFault}
use Rattle.sfen_text.specs.declared.fault.TextFault.TheVariants as faults
use Rattle.sfen_text.specs.Spelling.{board_text, side_letter, hand_text, hands_text, or_dash, sfen_of}
use Rattle.sfen_text.specs.Hands.{items, hands_with, hands_of, is_byte, empty_hand}
use Rattle.sfen_text.specs.Reading.{leading, without_end_blanks, front_len, field_of, next_of, cells_at, side_at, end_outcome, fields_at, input_parts, IsOutcomeOf}
use Rattle.sfen_text.specs.Bytes.{is_blank}
use Rattle.sfen_text.specs.Fields.{field, end_of}
use Rattle.sfen_text.proofs.RowsAgain.{board_again, cells_again}
use Rattle.sfen_text.proofs.HandsAgain.{IsSmall, both_again}
use Rattle.sfen_text.proofs.BytesAgain.{ArePlain, board_plain, board_long, hand_plain, both_plain}
use Rattle.sfen_text.proofs.Fields.{all_good}
use Rattle.sfen_text.proofs.FieldsAgain.{Ends, AreSolid, solid_from_plain, no_blank, leading_none, field_here, field_behind, no_end_blanks, no_front}

-- ---- the fields

pub side_again : (side : Side) (at : ℕ) → side_at at (side_letter side ∷ []) ≡ Ok side
unfolding side_at
side_again Black at = refl
side_again White at = refl

pub side_solid : (side : Side) → AreSolid (side_letter side ∷ [])
side_solid Black = (omega arith, tt)
side_solid White = (omega arith, tt)

cells_field : (cells : List (Option Piece)) (at : ℕ) → length cells ≡ 81 → cells_at at (board_text cells) ≡ Ok cells
unfolding cells_at
cells_field cells at size = rw (board_again cells (at + length (board_text cells)) at, cells_again cells size) refl

pub not_dash : (x : ℕ) (xs : List ℕ) → x ≢ 45 → is_byte 45 (x ∷ xs) ≡ false
not_dash x [] h = elim (eqb_tells x 45) [ inl t ↦ absurd (h t.1) | inr f ↦ f.0 ]
not_dash x (y ∷ xs) h = refl

pub dash_again : (text : List ℕ) (at : ℕ) (hands : List ℕ × List ℕ) → ArePlain text → hands_with empty_hand empty_hand (items at None at text) ≡ Ok hands → hands_of at (or_dash text) ≡ Ok hands
unfolding hands_of items hands_with
dash_again [] at hands plain e = e
dash_again (x ∷ xs) at hands plain e = rw (eqb-suc-zero (length xs), not_dash x xs plain.0.not_dash) e

hands_field : (black white : List ℕ) (at : ℕ) → length black ≡ 7 → length white ≡ 7 → IsSmall black → IsSmall white → hands_of at (hands_text black white) ≡ Ok (black, white)
hands_field black white at b7 w7 bs ws =
    dash_again (hand_text Black black ++ hand_text White white) at (black, white) (both_plain (hand_text Black black) (hand_text White white) (hand_plain Black black bs) (hand_plain White white ws)) (both_again black white at b7 w7 bs ws)

-- A text that isn't empty, by its first byte.
pub record Begun (text : List ℕ) : Type 0 where
  pub first : ℕ
  pub others : List ℕ
  pub parts : text ≡ first ∷ others
  pub solid : AreSolid (first ∷ others)

pub dash_begun : (text : List ℕ) → ArePlain text → Begun (or_dash text)
dash_begun [] plain = record { first = 45; others = []; parts = refl; solid = (omega arith, tt) }
dash_begun (x ∷ xs) plain = record { first = x; others = xs; parts = refl; solid = solid_from_plain (x ∷ xs) plain }

hands_begun : (black white : List ℕ) → IsSmall black → IsSmall white → Begun (hands_text black white)
hands_begun black white bs ws = dash_begun (hand_text Black black ++ hand_text White white) (both_plain (hand_text Black black) (hand_text White white) (hand_plain Black black bs) (hand_plain White white ws))

pub record Two (text : List ℕ) : Type 0 where
  pub first : ℕ
  pub second : ℕ
  pub others : List ℕ
  pub parts : text ≡ first ∷ second ∷ others
  pub plain : ArePlain (first ∷ second ∷ others)

pub two_of : (text : List ℕ) → ArePlain text → 2 ≤ length text → Two text
two_of [] plain le = absurd (omega arith)
two_of (x ∷ []) plain le = absurd (omega arith)
two_of (x ∷ y ∷ text) plain le = record { first = x; second = y; others = text; parts = refl; plain = plain }

pub end_again : (at : ℕ) → end_outcome (field at [] []) ≡ Ok (field at [] [])
unfolding end_outcome field_of leading
end_again at = refl

pub nothing_behind : (at : ℕ) (text : List ℕ) → field (at + length text + 0) [] [] ≡ next_of (field at text [])
unfolding field_of leading
nothing_behind at text = refl

board_field : (at : ℕ) (text rest : List ℕ) → Two text → Ends rest → field at text rest ≡ field_of at (text ++ rest)
board_field at text rest two ends = rw two.parts (sym (field_here at two.first (two.second ∷ two.others) rest (solid_from_plain (two.first ∷ two.second ∷ two.others) two.plain) ends))

last_field : (at : ℕ) (text : List ℕ) → Begun text → field (at + 1) text [] ≡ field_of at (32 ∷ text)
last_field at text begun =
    let behind = field_behind at begun.first begun.others [] begun.solid tt in
    rw begun.parts (sym (rw (append-nil (begun.first ∷ begun.others)) at behind))

-- What a position keeps of its hands.
pub small_black : (b : Board) → IsKept b → IsSmall b.black
small_black b kept Pawn h = omega (arith, kept.totals Pawn h)
small_black b kept Lance h = omega (arith, kept.totals Lance h)
small_black b kept Knight h = omega (arith, kept.totals Knight h)
small_black b kept Silver h = omega (arith, kept.totals Silver h)
small_black b kept Gold h = omega (arith, kept.totals Gold h)
small_black b kept Bishop h = omega (arith, kept.totals Bishop h)
small_black b kept Rook h = omega (arith, kept.totals Rook h)
small_black b kept King h = absurd (h refl)

pub small_white : (b : Board) → IsKept b → IsSmall b.white
small_white b kept Pawn h = omega (arith, kept.totals Pawn h)
small_white b kept Lance h = omega (arith, kept.totals Lance h)
small_white b kept Knight h = omega (arith, kept.totals Knight h)
small_white b kept Silver h = omega (arith, kept.totals Silver h)
small_white b kept Gold h = omega (arith, kept.totals Gold h)
small_white b kept Bishop h = omega (arith, kept.totals Bishop h)
small_white b kept Rook h = omega (arith, kept.totals Rook h)
small_white b kept King h = absurd (h refl)

board_two : (cells : List (Option Piece)) → Two (board_text cells)
board_two cells = two_of (board_text cells) (board_plain cells) (board_long cells)

-- The fields of a written text, from any place.
fields_again : (b : Board) (at : ℕ) → IsKept b → fields_at at (sfen_of b) ≡ Ok b
unfolding sfen_of
fields_again b at kept =
    let hands = hands_text b.black b.white in
    let one = field at (board_text b.cells) (32 ∷ side_letter b.side ∷ 32 ∷ hands) in
    let two = field (end_of one + 1) (side_letter b.side ∷ []) (32 ∷ hands) in
    let three = field (end_of two + 1) hands [] in
    let four = field (end_of three + 0) [] [] in
    all_good at (sfen_of b) one two three four b.cells b.side (b.black, b.white)
    (board_field at (board_text b.cells) (32 ∷ side_letter b.side ∷ 32 ∷ hands) (board_two b.cells) refl)
    (cells_field b.cells at kept.cells)
    (sym (field_behind (end_of one) (side_letter b.side) [] (32 ∷ hands) (side_solid b.side) refl))
    (side_again b.side two.at)
    (last_field (end_of two) hands (hands_begun b.black b.white (small_black b kept) (small_white b kept)))
    (hands_field b.black b.white three.at kept.black kept.white (small_black b kept) (small_white b kept))
    (nothing_behind three.at hands)
    (end_again four.at)

pub drop_none : (xs : List ℕ) → drop 0 xs ≡ xs
drop_none [] = refl
drop_none (x ∷ xs) = refl

no_blanks : (text rest : List ℕ) → Two text → leading is_blank (text ++ rest) ≡ 0
no_blanks text rest two = rw two.parts (leading_none is_blank two.first ((two.second ∷ two.others) ++ rest) (no_blank two.first two.plain.0.above))

pub no_words : (text rest : List ℕ) → Two text → front_len (text ++ rest) ≡ 0
no_words text rest two = rw two.parts (no_front two.first two.second (two.others ++ rest) two.plain.1.0)

no_end_of : (front text : List ℕ) → Begun text → without_end_blanks (front ++ text) ≡ front ++ text
no_end_of front text begun = rw begun.parts (no_end_blanks front begun.first begun.others begun.solid)

-- What is written for a position that is kept is read as it.
pub text_again : (b : Board) → IsKept b → input_parts (sfen_of b) ≡ Ok b
unfolding input_parts sfen_of
text_again b kept =
    let hands = hands_text b.black b.white in
    let begun = hands_begun b.black b.white (small_black b kept) (small_white b kept) in
    let start = no_blanks (board_text b.cells) (32 ∷ side_letter b.side ∷ 32 ∷ hands) (board_two b.cells) in
    let word = no_words (board_text b.cells) (32 ∷ side_letter b.side ∷ 32 ∷ hands) (board_two b.cells) in
    let regroup : board_text b.cells ++ 32 ∷ side_letter b.side ∷ 32 ∷ hands ≡ (board_text b.cells ++ 32 ∷ side_letter b.side ∷ 32 ∷ []) ++ hands = sym (append_assoc (board_text b.cells) (32 ∷ side_letter b.side ∷ 32 ∷ []) hands) in
    let end : without_end_blanks (sfen_of b) ≡ sfen_of b = ap without_end_blanks regroup ∙ no_end_of (board_text b.cells ++ 32 ∷ side_letter b.side ∷ 32 ∷ []) hands begun ∙ sym regroup in
    rw (start, drop_none (sfen_of b), end, word, drop_none (sfen_of b)) (fields_again b 0 kept)

pub ok_same : (a b : Board) → (r : Result Board TextFault) → r ≡ Ok a → r ≡ Ok b → a ≡ b
ok_same a b r p q = cc

-- No two positions have one text.
pub texts_apart : (a b : Board) → IsKept a → IsKept b → sfen_of a ≡ sfen_of b → a ≡ b
texts_apart a b ka kb e = ok_same a b (input_parts (sfen_of a)) (text_again a ka) (ap input_parts e ∙ text_again b kb)

pub outcome_again : (b : Board) (outcome : Result Board TextFault) → IsKept b → HasDefender b → IsOutcomeOf (Ok b) outcome → outcome ≡ Ok b
outcome_again b (Ok p) kept king is = ap (λ (q : Board). Ok q) is.0
outcome_again b (Err (faults.BadPosition fault)) kept king is = absurd (no_fault b fault kept king is.0)
outcome_again b (Err (faults.BadRow at)) kept king is = absurd is
outcome_again b (Err (faults.BadPiece at)) kept king is = absurd is
outcome_again b (Err (faults.BadSide at)) kept king is = absurd is
outcome_again b (Err (faults.BadHand at)) kept king is = absurd is
outcome_again b (Err (faults.HandTwice at)) kept king is = absurd is
outcome_again b (Err (faults.Trailing at)) kept king is = absurd is

pub read_again : (input : List ℕ) (outcome : Result Board TextFault) → IsOutcomeOf (input_parts input) outcome → (b : Board) → IsKept b → HasDefender b → input ≡ sfen_of b → outcome ≡ Ok b
read_again input outcome is b kept king e = outcome_again b outcome kept king (subst (λ (r : Result Board TextFault). IsOutcomeOf r outcome) (ap input_parts e ∙ text_again b kept) is)

pub only_text : (b : Board) (text : List ℕ) → IsKept b → text ≡ sfen_of b → (other : Board) → IsKept other → sfen_of other ≡ text → other ≡ b
only_text b text kept e other keeps h = texts_apart other b keeps kept (h ∙ e)
