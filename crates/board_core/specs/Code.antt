-- Codes of pieces, backwards: which piece a code stands for.
use Rattle.std.specs.Prelude.{◌≡◌, ◌-◌, ◌==◌, ℕ, List, map, Option, Some, None, true, nat_lt, refl, if◌then◌else◌}
use Rattle.bit_boards.specs.declared.piece.Kind.{Kind}
use Rattle.bit_boards.specs.declared.piece.Kind.TheVariants.{Pawn, Lance, Knight, Silver, Gold, Bishop, Rook, King}
use Rattle.bit_boards.specs.declared.piece.Side.{Side}
use Rattle.bit_boards.specs.declared.piece.Side.TheVariants.{Black, White}
use Rattle.bit_boards.specs.declared.piece.Piece.{Piece}
use Rattle.bit_boards.specs.Kind.{can_promote}
use Rattle.bit_boards.specs.Piece.{plain_piece}
use Rattle.board_core.specs.declared.code.Code.{Code}

-- A side's promoted piece of a kind that can be promoted.
abbrev pub promoted_piece : (kind : Kind) → can_promote kind ≡ true → Side → Piece
promoted_piece kind can side = record { kind = kind; promoted = true; side = side; promotes = λ e. can }

-- The side's piece whose code, were it Black's, is this; none for 0, and from 15 on.
abbrev pub piece_in : ℕ → Side → Option Piece
piece_in code side =
    if code == 1 then Some (plain_piece Pawn side)
    else (if code == 2 then Some (plain_piece Lance side)
    else (if code == 3 then Some (plain_piece Knight side)
    else (if code == 4 then Some (plain_piece Silver side)
    else (if code == 5 then Some (plain_piece Gold side)
    else (if code == 6 then Some (plain_piece Bishop side)
    else (if code == 7 then Some (plain_piece Rook side)
    else (if code == 8 then Some (plain_piece King side)
    else (if code == 9 then Some (promoted_piece Pawn refl side)
    else (if code == 10 then Some (promoted_piece Lance refl side)
    else (if code == 11 then Some (promoted_piece Knight refl side)
    else (if code == 12 then Some (promoted_piece Silver refl side)
    else (if code == 13 then Some (promoted_piece Bishop refl side)
    else (if code == 14 then Some (promoted_piece Rook refl side)
    else None)))))))))))))

-- What a square of a code holds.
abbrev pub cell_in : ℕ → Option Piece
cell_in code = if nat_lt 14 code then piece_in (code - 14) White else piece_in code Black

-- What squares of these codes hold.
abbrev pub cells_of : List Code → List (Option Piece)
cells_of codes = map (λ code. cell_in code.number) codes
