-- Serves private functions alone: how the board field of an SFEN text is read, its signs and the
-- squares that they fill.
use Rattle.std.specs.Prelude.{◌≡◌, ◌+◌, ◌-◌, ◌*◌, ◌/◌, ◌%◌, ◌==◌, ◌&&◌, ℕ, List, [], ◌∷◌, ◌++◌, length, map, replicate, Option, Some, None, Result, Ok, Err, nat_le, nat_lt, if◌then◌else◌, take, ◌≤◌}
use Rattle.std.specs.List.{range_with_len}
use Rattle.bit_boards.specs.declared.piece.Piece.{Piece}
use Rattle.board_core.specs.Board.{piece_at}
use Rattle.sfen_text.specs.declared.fault.TextFault.{TextFault}
use Rattle.sfen_text.specs.declared.fault.TextFault.TheVariants.{BadRow, BadPiece}
use Rattle.sfen_text.specs.declared.squares.Filling.{Filling}
use Rattle.sfen_text.specs.declared.squares.Sign.{Sign}
use Rattle.sfen_text.specs.declared.squares.Sign.TheVariants.{Slash, Run, Stands, Broken}
use Rattle.sfen_text.specs.Pieces.{piece_of, promoted_of}

-- The sign of a piece, where there is one.
abbrev pub sign_of_piece : Option Piece → Sign
sign_of_piece (Some piece) = Stands piece
sign_of_piece None = Broken

-- The sign that a byte is without a plus: a slash, a run of 1 to 9 empty squares, or a piece.
abbrev pub plain_sign : ℕ → Sign
plain_sign byte = if byte == 47 then Slash else (if nat_le 49 byte && nat_le byte 57 then Run (byte - 48) else sign_of_piece (piece_of byte))

-- The signs of a text, each with its place.
pub data Signs : Type 0 where
  none : Signs
  sign : ℕ → Sign → Signs → Signs

-- The signs of a text that begins at a place. A plus and the letter behind it are one sign, a
-- promoted piece.
unfoldable pub signs : ℕ → List ℕ → Signs
signs at [] = none
signs at (byte ∷ []) = sign at (plain_sign byte) none
signs at (byte ∷ next ∷ text) =
    if byte == 43 then sign at (sign_of_piece (promoted_of next)) (signs (at + 2) text)
    else sign at (plain_sign byte) (signs (at + 1) (next ∷ text))

-- What was read before, and what is read behind it.
abbrev pub in_front : {A : Type 0} → List A → Result (List A) TextFault → Result (List A) TextFault
in_front front (Ok read) = Ok (front ++ read)
in_front front (Err fault) = Err fault

-- What stands on the squares that are still to be read, row by row from file 9 to file 1, `left`
-- squares of this row and `rows` whole rows below it; or the first fault. The text ends at `end`.
unfoldable pub squares : ℕ → ℕ → ℕ → Signs → Result (List (Option Piece)) TextFault
squares end further_rows left none = if further_rows == 0 && left == 0 then Ok [] else Err (BadRow end)
squares end further_rows left (sign at Slash rest) = if left == 0 && nat_lt 0 further_rows then squares end (further_rows - 1) 9 rest else Err (BadRow at)
squares end further_rows left (sign at (Run n) rest) = if nat_le n left then in_front (replicate n None) (squares end further_rows (left - n) rest) else Err (BadRow at)
squares end further_rows left (sign at (Stands piece) rest) = if nat_lt 0 left then in_front (Some piece ∷ []) (squares end further_rows (left - 1) rest) else Err (BadRow at)
squares end further_rows left (sign at Broken rest) = Err (BadPiece at)

-- The place of a square, by its number, in the order of reading: row a first, each row from file 9
-- to file 1.
abbrev pub reading_place : ℕ → ℕ
reading_place square = 9 * (square % 9) + (8 - square / 9)

-- The 81 cells by the number of the square, from what was read.
unfoldable pub cells_of : List (Option Piece) → List (Option Piece)
cells_of read = map (λ square. piece_at read (reading_place square)) (range_with_len 0 81)

-- The number of the square at a place in that order.
abbrev pub square_read : ℕ → ℕ
square_read place = 9 * (8 - place % 9) + place / 9

-- What stands on the squares in that order, from the cells by the number of the square.
unfoldable pub in_order : List (Option Piece) → List (Option Piece)
in_order cells = map (λ place. piece_at cells (square_read place)) (range_with_len 0 81)

-- How many squares are read, where so many are still to come.
abbrev pub read_count : Filling → ℕ
read_count filling = 81 - 9 * filling.further_rows - filling.left

-- What stands on the squares that are read, in the order of reading.
abbrev pub filled_squares : Filling → List (Option Piece)
filled_squares filling = take (read_count filling) (in_order filling.cells)

-- At most nine squares of a row and eight further rows are still to come, and nothing stands on
-- them yet.
pub record IsFilling (filling : Filling) : Type 0 where
  pub size : length filling.cells ≡ 81
  pub further_rows : filling.further_rows ≤ 8
  pub left : filling.left ≤ 9
  pub ahead : (place : ℕ) → read_count filling ≤ place → piece_at (in_order filling.cells) place ≡ None

-- One more sign was taken: what is behind it is read on from the new squares; or the fault is
-- there, whatever is behind it.
abbrev pub IsSignTaken : Filling → Filling → Sign → ℕ → Result (Unit {0}) TextFault → Type 0
IsSignTaken old new found at (Ok _) = IsFilling new × ((end : ℕ) (rest : Signs) → in_front (filled_squares old) (squares end old.further_rows old.left (sign at found rest)) ≡ in_front (filled_squares new) (squares end new.further_rows new.left rest))
IsSignTaken old new found at (Err fault) = (end : ℕ) (rest : Signs) → squares end old.further_rows old.left (sign at found rest) ≡ Err fault
