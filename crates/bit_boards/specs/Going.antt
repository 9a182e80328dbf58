-- Which bit of the table of going is a piece's.
use Rattle.std.specs.Prelude.{◌+◌, ◌*◌, ℕ, Bool, true, false}
use Rattle.bit_boards.specs.declared.piece.Piece.{Piece}
use Rattle.bit_boards.specs.Kind.{place_of}
use Rattle.bit_boards.specs.Gait.{row_of_side}

-- The two sides of a piece in their order: the plain one, and the promoted one.
abbrev pub row_of_face : Bool → ℕ
row_of_face false = 0
row_of_face true = 1

-- The bit of a piece: 16 for White, 8 for the promoted side, and the place of its kind.
abbrev pub place_in : Piece → ℕ
place_in piece = 16 * row_of_side piece.side + 8 * row_of_face piece.promoted + place_of piece.kind
