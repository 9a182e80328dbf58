-- Dominance as keys tell it: whether two are of one board, and which hand has more, by the words
-- alone.
use Rattle.std.specs.Prelude.{◌≡◌, ◌≤◌, ◌↔◌, ◌*◌, ◌/◌, ◌%◌, ◌^◌, ℕ, List, slice_index, slice_set}
use Rattle.bit_boards.specs.declared.piece.Kind.{Kind}
use Rattle.bit_boards.specs.declared.piece.Kind.TheVariants.{Pawn, Lance, Knight, Silver, Gold, Bishop, Rook, King}
use Rattle.bit_boards.specs.declared.piece.Side.{Side}
use Rattle.bit_boards.specs.declared.piece.Side.TheVariants.{Black, White}
use Rattle.bit_boards.specs.Kind.{other}
use Rattle.board_core.specs.declared.keys.Key.{Key}
use Rattle.board_core.specs.Board.{Board}
use Rattle.board_core.specs.Kept.{IsKept}
use Rattle.board_core.specs.Key.{key_of}
use Rattle.hand_dominance.specs.Dominance.{Dominates}

-- How many of a kind a hand has, by its 21 bits in a key: from the lowest, five bits for the pawns,
-- three each for lances, knights, silvers and golds, two each for bishops and rooks. A king is in
-- no hand.
abbrev pub count_in : Kind → ℕ → ℕ
count_in Pawn bits = bits % 2 ^ 5
count_in Lance bits = bits / 2 ^ 5 % 2 ^ 3
count_in Knight bits = bits / 2 ^ 8 % 2 ^ 3
count_in Silver bits = bits / 2 ^ 11 % 2 ^ 3
count_in Gold bits = bits / 2 ^ 14 % 2 ^ 3
count_in Bishop bits = bits / 2 ^ 17 % 2 ^ 2
count_in Rook bits = bits / 2 ^ 19 % 2 ^ 2
count_in King bits = 0

-- A hand has, kind by kind, at least as many as another, by their bits.
abbrev pub HasAtLeast : ℕ → ℕ → Type 0
HasAtLeast one two = (kind : Kind) → count_in kind two ≤ count_in kind one

-- The bits of a side's hand in the last word of a key: Black's are the lowest 21, White's the next.
abbrev pub bits_of : Side → ℕ → ℕ
bits_of Black word = word % 2 ^ 21
bits_of White word = word / 2 ^ 21 % 2 ^ 21

-- The bits of a side's hand in a key.
abbrev pub hand_in : Side → Key → ℕ
hand_in side key = bits_of side (slice_index key.0 7)

-- The words of a key without the hands: of the last the lowest 42 bits are zero.
abbrev pub board_words : List ℕ → List ℕ
board_words words = slice_set words 7 (2 ^ 42 * (slice_index words 7 / 2 ^ 42))

-- A key without the hands: that of the board and the side to move.
abbrev pub without_hands : Key → Key
without_hands key = record { 0 = board_words key.0 }

-- The position of the one key dominates that of the other, for this attacker, as far as the words
-- tell: the same board and side to move, and kind by kind at least as many in the attacker's hand,
-- at most as many in the defender's.
pub record KeyDominates (attacker : Side) (over under : Key) : Type 0 where
  pub board : without_hands over ≡ without_hands under
  pub more : HasAtLeast (hand_in attacker over) (hand_in attacker under)
  pub less : HasAtLeast (hand_in (other attacker) under) (hand_in (other attacker) over)

-- A law: the words tell which position dominates which.
abbrev pub KeysTellDominance : Type 0
KeysTellDominance = (attacker : Side) (over under : Board) (high low : Key) → IsKept over → IsKept under → high.0 ≡ key_of over → low.0 ≡ key_of under
    → KeyDominates attacker high low ↔ Dominates attacker over under
