-- Serves private functions alone: how the hands field of an SFEN text is read.
use Rattle.std.specs.Prelude.{◌≡◌, ◌+◌, ◌-◌, ◌*◌, ◌==◌, ◌&&◌, ℕ, List, [], ◌∷◌, length, slice_set, Bool, false, Option, Some, None, Result, Ok, Err, nat_le, nat_lt, unwrap_or, if◌then◌else◌, ◌≤◌}
use Rattle.bit_boards.specs.declared.piece.Kind.{Kind}
use Rattle.bit_boards.specs.declared.piece.Kind.TheVariants.{Pawn, King}
use Rattle.bit_boards.specs.declared.piece.Side.{Side}
use Rattle.bit_boards.specs.declared.piece.Side.TheVariants.{Black, White}
use Rattle.bit_boards.specs.declared.piece.Piece.{Piece}
use Rattle.bit_boards.specs.Kind.{place_of, same_kind, total_of}
use Rattle.board_core.specs.Board.{hand_count}
use Rattle.sfen_text.specs.declared.fault.TextFault.{TextFault}
use Rattle.sfen_text.specs.declared.fault.TextFault.TheVariants.{BadHand, HandTwice}
use Rattle.sfen_text.specs.declared.hands.Holding.{Holding}
use Rattle.sfen_text.specs.Bytes.{is_digit}
use Rattle.sfen_text.specs.Pieces.{piece_of}

-- The items of a text: each with the place of its letter, its count, side and kind; or the place
-- where an item begins that is none.
pub data Items : Type 0 where
  none : Items
  item : ℕ → ℕ → Side → Kind → Items → Items
  broken : ℕ → Items

-- An item of this letter's piece, which is no king; its text begins at `start`, its letter stands
-- at `at`.
abbrev pub letter_item : ℕ → ℕ → ℕ → Option Piece → Items → Items
letter_item start at count None rest = broken start
letter_item start at count (Some piece) rest = if same_kind piece.kind King then broken start else item at count piece.side piece.kind rest

-- The value of digits, and one more digit.
abbrev pub value_with : Option ℕ → ℕ → ℕ
value_with count byte = 10 * unwrap_or count 0 + (byte - 48)

-- What comes at the end of a text of items: nothing more; or the item that is being read, which is
-- none without a letter.
abbrev pub last_item : ℕ → Option ℕ → Items
last_item start None = none
last_item start (Some count) = broken start

-- The items of a text from `at` on; the item that is being read begins at `start`, and `count` is
-- the value of its digits so far, where there are any. A count is 1 to 18, without a leading zero.
unfoldable pub items : ℕ → Option ℕ → ℕ → List ℕ → Items
items start count at [] = last_item start count
items start count at (byte ∷ text) =
    if is_digit byte then
    (if nat_lt 0 (value_with count byte) && nat_le (value_with count byte) (total_of Pawn) then items start (Some (value_with count byte)) (at + 1) text else broken start)
    else letter_item start at (unwrap_or count 1) (piece_of byte) (items (at + 1) None (at + 1) text)

-- The hands with these items added to them, Black's first; or the first fault.
unfoldable pub hands_with : List ℕ → List ℕ → Items → Result (List ℕ × List ℕ) TextFault
hands_with black white none = Ok (black, white)
hands_with black white (item at count Black kind rest) = if hand_count black kind == 0 then hands_with (slice_set black (place_of kind) count) white rest else Err (HandTwice at)
hands_with black white (item at count White kind rest) = if hand_count white kind == 0 then hands_with black (slice_set white (place_of kind) count) rest else Err (HandTwice at)
hands_with black white (broken start) = Err (BadHand start)

-- Whether a text is this one byte.
abbrev pub is_byte : ℕ → List ℕ → Bool
is_byte wanted [] = false
is_byte wanted (byte ∷ []) = byte == wanted
is_byte wanted (byte ∷ next ∷ text) = false

-- The empty hand.
abbrev pub empty_hand : List ℕ
empty_hand = 0 ∷ 0 ∷ 0 ∷ 0 ∷ 0 ∷ 0 ∷ 0 ∷ []

-- The hands of a field at a place: empty ones for a dash; or the first fault, as where there is no
-- field.
unfoldable pub hands_of : ℕ → List ℕ → Result (List ℕ × List ℕ) TextFault
hands_of at text =
    if length text == 0 then Err (BadHand at)
    else (if is_byte 45 text then Ok (empty_hand, empty_hand) else hands_with empty_hand empty_hand (items at None at text))

-- The value of digits so far, where there are any, is a count.
abbrev pub IsCountSoFar : Option ℕ → Type 0
IsCountSoFar None = Unit {0}
IsCountSoFar (Some count) = (1 ≤ count) × (count ≤ total_of Pawn)

-- One more byte was read, as an item's: what is behind it is read on from what was answered; or the
-- fault is there, whatever is behind it.
abbrev pub IsItemRead : Holding → ℕ → ℕ → Result Holding TextFault → Type 0
IsItemRead holding byte at (Ok next) = IsCountSoFar next.count × ((rest : List ℕ) → hands_with holding.black holding.white (items holding.start holding.count at (byte ∷ rest)) ≡ hands_with next.black next.white (items next.start next.count (at + 1) rest))
IsItemRead holding byte at (Err fault) = (rest : List ℕ) → hands_with holding.black holding.white (items holding.start holding.count at (byte ∷ rest)) ≡ Err fault
