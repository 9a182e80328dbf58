use Rattle.std.specs.Prelude.{◌+◌, ◌*◌, ◌^◌, ℕ, List, [], ◌∷◌, Option, Some, None, Bool, true, false, take, drop}
use Rattle.bit_boards.specs.declared.piece.Kind.{Kind}
use Rattle.bit_boards.specs.declared.piece.Kind.TheVariants.{Pawn, Lance, Knight, Silver, Gold, Bishop, Rook, King}
use Rattle.bit_boards.specs.declared.piece.Side.{Side}
use Rattle.bit_boards.specs.declared.piece.Side.TheVariants.{Black, White}
use Rattle.bit_boards.specs.declared.piece.Piece.{Piece}
use Rattle.board_core.specs.Board.{Board, hand_count}

-- Black's code of a kind, and of its promoted side: 1 to 8 are the kinds in their order, the king
-- last; 9 to 14 are the promoted ones in the same order. Gold and king have no promoted side, so no
-- other code.
abbrev pub kind_code : Bool → Kind → ℕ
kind_code false Pawn = 1
kind_code false Lance = 2
kind_code false Knight = 3
kind_code false Silver = 4
kind_code false Gold = 5
kind_code false Bishop = 6
kind_code false Rook = 7
kind_code false King = 8
kind_code true Pawn = 9
kind_code true Lance = 10
kind_code true Knight = 11
kind_code true Silver = 12
kind_code true Gold = 5
kind_code true Bishop = 13
kind_code true Rook = 14
kind_code true King = 8

-- How much more than Black's code a side's code is.
abbrev pub side_code : Side → ℕ
side_code Black = 0
side_code White = 14

-- The code of what a square holds: 0 where it is empty; 1 to 14 for Black's pieces, 15 to 28 for
-- White's.
abbrev pub code_of : Option Piece → ℕ
code_of None = 0
code_of (Some piece) = kind_code piece.promoted piece.kind + side_code piece.side

-- One number in so many of the lowest bits, and another in the bits above them.
abbrev pub low_and_high : ℕ → ℕ → ℕ → ℕ
low_and_high width low high = low + 2 ^ width * high

-- Squares in a word: five bits for the code of each, the first in the lowest bits.
abbrev pub packed_cells : List (Option Piece) → ℕ
packed_cells [] = 0
packed_cells (cell ∷ cells) = low_and_high 5 (code_of cell) (packed_cells cells)

-- The word of a key for twelve squares, the first of which has twelve times the word's number; the
-- last such word has nine.
unfoldable pub key_word : List (Option Piece) → ℕ → ℕ
key_word cells number = packed_cells (take 12 (drop (12 * number) cells))

-- A hand in 21 bits, from the lowest: five bits for the pawns, three each for lances, knights,
-- silvers and golds, two each for bishops and rooks.
unfoldable pub hand_code : List ℕ → ℕ
hand_code hand = low_and_high 5 (hand_count hand Pawn) (low_and_high 3 (hand_count hand Lance) (low_and_high 3 (hand_count hand Knight) (low_and_high 3 (hand_count hand Silver)
    (low_and_high 3 (hand_count hand Gold) (low_and_high 2 (hand_count hand Bishop) (hand_count hand Rook))))))

-- What one piece of a kind adds to the code of a hand. A king is in no hand.
abbrev pub one_code : Kind → ℕ
one_code Pawn = 1
one_code Lance = 2 ^ 5
one_code Knight = 2 ^ 8
one_code Silver = 2 ^ 11
one_code Gold = 2 ^ 14
one_code Bishop = 2 ^ 17
one_code Rook = 2 ^ 19
one_code King = 0

-- What one piece of a kind in a side's hand adds to the last word of a key, where Black's hand has
-- the lowest 21 bits.
abbrev pub one_in_hand : Side → Kind → ℕ
one_in_hand Black kind = one_code kind
one_in_hand White kind = 2 ^ 21 * one_code kind

-- 1 where White is to move, else 0.
abbrev pub side_bit : Side → ℕ
side_bit Black = 0
side_bit White = 1

-- The last word of a key: Black's hand in 21 bits, White's hand in the next 21, and the side to
-- move in the bit above them.
abbrev pub hands_word : Board → ℕ
hands_word b = low_and_high 21 (hand_code b.black) (low_and_high 21 (hand_code b.white) (side_bit b.side))

-- The eight words of a board's key: seven of twelve squares each, and one of the hands and the side
-- to move.
unfoldable pub key_of : Board → List ℕ
key_of b = key_word b.cells 0 ∷ key_word b.cells 1 ∷ key_word b.cells 2 ∷ key_word b.cells 3 ∷ key_word b.cells 4 ∷ key_word b.cells 5
    ∷ key_word b.cells 6 ∷ hands_word b ∷ []
