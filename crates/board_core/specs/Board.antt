use Rattle.std.specs.Prelude.{◌≡◌, ◌≢◌, ◌<◌, ◌+◌, ◌-◌, ◌&&◌, ℕ, List, Option, Some, None, Bool, true, false, not, slice_get, slice_set, slice_index, count_by}
use Rattle.bit_boards.specs.declared.piece.Kind.{Kind}
use Rattle.bit_boards.specs.declared.piece.Kind.TheVariants.{Pawn, King}
use Rattle.bit_boards.specs.declared.piece.Side.{Side}
use Rattle.bit_boards.specs.declared.piece.Side.TheVariants.{Black, White}
use Rattle.bit_boards.specs.declared.piece.Piece.{Piece}
use Rattle.bit_boards.specs.Kind.{other, same_side, same_kind, place_of}

-- What contracts see of a position: 81 cells by the number of the square, the two hands by the
-- order of the kinds, and the side to move.
pub record Board : Type 0 where
  pub cells : List (Option Piece)
  pub black : List ℕ
  pub white : List ℕ
  pub side : Side

-- What a cell holds; a cell that isn't there holds nothing.
abbrev pub content_of : Option (Option Piece) → Option Piece
content_of None = None
content_of (Some cell) = cell

-- The piece on a square, where there is one.
abbrev pub piece_at : List (Option Piece) → ℕ → Option Piece
piece_at cells square = content_of (slice_get cells square)

-- How many pieces of a kind a hand holds.
abbrev pub hand_count : List ℕ → Kind → ℕ
hand_count hand kind = slice_index hand (place_of kind)

-- The first for Black, the second for White.
abbrev pub by_side : {T : Type 0} → Side → T → T → T
by_side Black x y = x
by_side White x y = y

-- A side's hand.
abbrev pub hand_of : Board → Side → List ℕ
hand_of b side = by_side side b.black b.white

-- A hand with one more of a kind.
abbrev pub with_more : List ℕ → Kind → List ℕ
with_more hand kind = slice_set hand (place_of kind) (hand_count hand kind + 1)

-- A hand with one less of a kind.
abbrev pub with_less : List ℕ → Kind → List ℕ
with_less hand kind = slice_set hand (place_of kind) (hand_count hand kind - 1)

-- Whether a piece of the kind, promoted or not, of either side, stands in the cell.
abbrev pub is_of_kind : Kind → Option Piece → Bool
is_of_kind k None = false
is_of_kind k (Some piece) = same_kind piece.kind k

-- Whether the side's king stands in the cell.
abbrev pub is_king_of : Side → Option Piece → Bool
is_king_of side None = false
is_king_of side (Some piece) = same_kind piece.kind King && same_side piece.side side

-- Whether an unpromoted pawn of the side stands in the cell.
abbrev pub is_pawn_of : Side → Option Piece → Bool
is_pawn_of side None = false
is_pawn_of side (Some piece) = same_kind piece.kind Pawn && (not piece.promoted && same_side piece.side side)

-- How many pieces of a kind there are: on the board, promoted or not, of both sides, and in both
-- hands.
abbrev pub count_of : Board → Kind → ℕ
count_of b kind = count_by (is_of_kind kind) b.cells + hand_count b.black kind + hand_count b.white kind

-- How many kings of a side stand on the board.
abbrev pub kings_of : Board → Side → ℕ
kings_of b side = count_by (is_king_of side) b.cells

-- The side that isn't to move, the defender of a problem, has a king.
abbrev pub HasDefender : Board → Type 0
HasDefender b = 0 < kings_of b (other b.side)

-- The board with this in a cell.
abbrev pub with_cell : Board → ℕ → Option Piece → Board
with_cell b square cell = record b { cells = slice_set b.cells square cell }

-- The board with this hand of a side.
abbrev pub with_hand : Board → Side → List ℕ → Board
with_hand b side hand = record b { black = by_side side hand b.black; white = by_side side b.white hand }

-- The board with the other side to move.
abbrev pub with_turn_passed : Board → Board
with_turn_passed b = record b { side = other b.side }

-- 1 where the test holds, else 0.
abbrev pub one_if : Bool → ℕ
one_if true = 1
one_if false = 0

-- What changes when one cell of a board is written: that cell, and the counts of pieces and kings
-- by what it held and holds.
pub record ChangesCell (old new : Board) (square : ℕ) (cell : Option Piece) : Type 0 where
  pub there : piece_at new.cells square ≡ cell
  pub elsewhere : (s : ℕ) → s ≢ square → piece_at new.cells s ≡ piece_at old.cells s
  pub counts : (kind : Kind) → count_of new kind + one_if (is_of_kind kind (piece_at old.cells square)) ≡ count_of old kind + one_if (is_of_kind kind cell)
  pub kings : (side : Side) → kings_of new side + one_if (is_king_of side (piece_at old.cells square)) ≡ kings_of old side + one_if (is_king_of side cell)
