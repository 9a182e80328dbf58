-- Serves private functions alone: how an SFEN text is read.
use Rattle.std.specs.Prelude.{◌≡◌, ◌+◌, ◌-◌, ◌==◌, ◌&&◌, ℕ, List, length, take, drop, reverse, take_while, codes, Bool, not, Option, Result, Ok, Err, nat_eq, nat_le, if◌then◌else◌}
use Rattle.std.specs.List.{list_all, starts_with}
use Rattle.bit_boards.specs.declared.piece.Side.{Side}
use Rattle.bit_boards.specs.declared.piece.Side.TheVariants.{Black, White}
use Rattle.bit_boards.specs.declared.piece.Piece.{Piece}
use Rattle.board_core.specs.Board.{Board}
use Rattle.board_core.specs.Build.{IsBuilt}
use Rattle.sfen_text.specs.declared.fault.TextFault.{TextFault}
use Rattle.sfen_text.specs.declared.fault.TextFault.TheVariants.{BadSide, Trailing, BadPosition}
use Rattle.sfen_text.specs.Signs.{signs, squares, cells_of}
use Rattle.sfen_text.specs.Bytes.{is_digit, is_space, is_blank}
use Rattle.sfen_text.specs.Fields.{Field, field, end_of}
use Rattle.sfen_text.specs.Hands.{is_byte, hands_of}

infixl 10 ◌>>=◌
-- What follows a step, unless the step has a fault.
abbrev pub ◌>>=◌ : {A B : Type 0} → Result A TextFault → (A → Result B TextFault) → Result B TextFault
(Ok x) >>= f = f x
(Err e) >>= f = Err e

-- How many bytes at the front of a text pass a test.
unfoldable pub leading : (ℕ → Bool) → List ℕ → ℕ
leading test text = length (take_while test text)

-- A text without the blanks at its end.
unfoldable pub without_end_blanks : List ℕ → List ℕ
without_end_blanks text = take (length text - leading is_blank (reverse text)) text

-- How long a front `position sfen ` or `sfen ` is.
unfoldable pub front_len : List ℕ → ℕ
front_len text = if starts_with nat_eq text (codes "position sfen ") then 14 else (if starts_with nat_eq text (codes "sfen ") then 5 else 0)

-- The next field of a text that begins at a place: what stands up to the next space, behind the
-- spaces in front. Where the text has ended, an empty field at its end.
unfoldable pub field_of : ℕ → List ℕ → Field
field_of at text =
    let spaces = leading is_space text in
    let here = drop spaces text in
    let size = leading (λ byte. not (is_space byte)) here in
    record { at = at + spaces; text = take size here; rest = drop size here }

-- The field behind a field.
abbrev pub next_of : Field → Field
next_of field = field_of (end_of field) field.rest

-- The cells of the board's field at a place.
unfoldable pub cells_at : ℕ → List ℕ → Result (List (Option Piece)) TextFault
cells_at at text = do
  read ← squares (at + length text) 8 9 (signs at text)
  Ok (cells_of read)

-- The side of the side's field at a place.
unfoldable pub side_at : ℕ → List ℕ → Result Side TextFault
side_at at text = if is_byte 98 text then Ok Black else (if is_byte 119 text then Ok White else Err (BadSide at))

-- Whether a field is a move number of one to nine digits, or no field at all.
abbrev pub is_number : List ℕ → Bool
is_number text = nat_le (length text) 9 && list_all is_digit text

-- The first fault of what stands behind the hands: one move number may stand there.
unfoldable pub end_outcome : Field → Result Field TextFault
end_outcome field = if not (is_number field.text) then Err (Trailing field.at)
    else (if length (next_of field).text == 0 then Ok field else Err (Trailing (next_of field).at))

-- The board, side and hands of a text that begins at a place; or the first fault of their fields.
unfoldable pub fields_at : ℕ → List ℕ → Result Board TextFault
fields_at at text = do
  let board = field_of at text
  cells ← cells_at board.at board.text
  let turn = next_of board
  side ← side_at turn.at turn.text
  let hands_field = next_of turn
  hands ← hands_of hands_field.at hands_field.text
  over ← end_outcome (next_of hands_field)
  Ok (record { cells = cells; black = hands.0; white = hands.1; side = side })

-- The board, side and hands of an input; or the first fault of its fields.
unfoldable pub input_parts : List ℕ → Result Board TextFault
input_parts input =
    let blanks = leading is_blank input in
    let body = without_end_blanks (drop blanks input) in
    let front = front_len body in
    fields_at (blanks + front) (drop front body)

-- The outcome to what was read: its fault; else the position that the parts make, or their first
-- fault.
abbrev pub IsOutcomeOf : Result Board TextFault → Result Board TextFault → Type 0
IsOutcomeOf (Err fault) outcome = outcome ≡ Err fault
IsOutcomeOf (Ok b) (Ok position) = IsBuilt b (Ok position)
IsOutcomeOf (Ok b) (Err (BadPosition bad)) = IsBuilt b (Err bad)
IsOutcomeOf (Ok b) (Err fault) = ⊥

-- What a reader gave, seen by view, is what reading gives.
abbrev pub Gives : {X Y : Type 0} → (X → Y) → Result X TextFault → Result Y TextFault → Type 0
Gives view (Ok x) read = read ≡ Ok (view x)
Gives view (Err fault) read = read ≡ Err fault
