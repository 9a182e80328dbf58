-- Where the pieces of a board stand, as sets of squares.
use Rattle.std.specs.Prelude.{◌≡◌, ◌||◌, ◌&&◌, ℕ, Option, Some, None, Bool, false, not}
use Rattle.bit_boards.specs.declared.piece.Kind.TheVariants.{Pawn, Lance, Bishop, Rook, King}
use Rattle.bit_boards.specs.declared.piece.Side.{Side}
use Rattle.bit_boards.specs.declared.piece.Side.TheVariants.{Black, White}
use Rattle.bit_boards.specs.declared.piece.Piece.{Piece}
use Rattle.bit_boards.specs.Kind.{same_side, same_kind}
use Rattle.bit_boards.specs.Mask.{holds}
use Rattle.board_core.specs.declared.sets.Sets.{Sets}

-- Whether a piece of the side stands in the cell.
abbrev pub is_of_side : Side → Option Piece → Bool
is_of_side side None = false
is_of_side side (Some piece) = same_side piece.side side

-- Whether a king stands in the cell.
abbrev pub is_king : Option Piece → Bool
is_king None = false
is_king (Some piece) = same_kind piece.kind King

-- Whether an unpromoted pawn stands in the cell.
abbrev pub is_pawn : Option Piece → Bool
is_pawn None = false
is_pawn (Some piece) = same_kind piece.kind Pawn && not piece.promoted

-- Whether a piece that slides stands in the cell: a lance that isn't promoted, a bishop or a rook,
-- promoted or not.
abbrev pub is_slider : Option Piece → Bool
is_slider None = false
is_slider (Some piece) = (same_kind piece.kind Lance && not piece.promoted) || (same_kind piece.kind Bishop || same_kind piece.kind Rook)

-- `at` says what each square holds; the sets are those of Black's pieces, of White's, and, of both
-- sides, of kings, of unpromoted pawns and of pieces that slide.
pub record AreSetsOf (sets : Sets) (at : ℕ → Option Piece) : Type 0 where
  pub black : (square : ℕ) → holds sets.black square ≡ is_of_side Black (at square)
  pub white : (square : ℕ) → holds sets.white square ≡ is_of_side White (at square)
  pub kings : (square : ℕ) → holds sets.kings square ≡ is_king (at square)
  pub pawns : (square : ℕ) → holds sets.pawns square ≡ is_pawn (at square)
  pub sliders : (square : ℕ) → holds sets.sliders square ≡ is_slider (at square)
