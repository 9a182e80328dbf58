-- Pieces as they stand on a board.
use Rattle.std.specs.Prelude.{◌+◌, ◌&&◌, ℕ, Option, Some, None, Bool, false, not, nat_lt}
use Rattle.std.proofs.lemmas.Bool.{false≢true}
use Rattle.bit_boards.specs.declared.piece.Kind.{Kind}
use Rattle.bit_boards.specs.declared.piece.Side.{Side}
use Rattle.bit_boards.specs.declared.piece.Piece.{Piece}
use Rattle.bit_boards.specs.Kind.{rows_needed}
use Rattle.bit_boards.specs.Square.{height}

-- A side's piece of a kind, unpromoted.
abbrev pub plain_piece : Kind → Side → Piece
plain_piece kind side = record { kind = kind; promoted = false; side = side; promotes = λ e. absurd (false≢true e) }

-- Whether a piece could never move again from a square: unpromoted, with too few rows ahead of it.
abbrev pub is_dead : ℕ → Option Piece → Bool
is_dead square None = false
is_dead square (Some piece) = not piece.promoted && nat_lt 8 (height piece.side square + rows_needed piece.kind)
