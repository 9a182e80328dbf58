use Rattle.std.specs.Prelude.{◌≡◌, ◌≢◌, ◌≤◌, ◌<◌, ◌+◌, ℕ, Result, Ok, Err, true}
use Rattle.bit_boards.specs.declared.piece.Side.{Side}
use Rattle.bit_boards.specs.declared.piece.Kind.TheVariants.{King}
use Rattle.board_core.specs.declared.build.BadPosition.{BadPosition}
use Rattle.board_core.specs.declared.build.BadPosition.TheVariants.{TooMany, NoDefenderKing, TwoKings, DeadPiece, TwoPawns}
use Rattle.bit_boards.specs.Kind.{other, place_of, total_of}
use Rattle.bit_boards.specs.Piece.{is_dead}
use Rattle.board_core.specs.Board.{Board, piece_at, count_of, kings_of}
use Rattle.board_core.specs.Kept.{TwoPawnsOn}

-- The fault is there: more pieces of a kind, kings aside, than a set has, no king of the side not
-- to move, two kings of a side, a piece that could never move again on a square, or two unpromoted
-- pawns of a side on a file.
abbrev pub HasFault : Board → BadPosition → Type 0
HasFault b (TooMany kind) = (kind ≢ King) × (total_of kind < count_of b kind)
HasFault b NoDefenderKing = kings_of b (other b.side) ≡ 0
HasFault b TwoKings = (side : Side) × (2 ≤ kings_of b side)
HasFault b (DeadPiece square) = is_dead square.number (piece_at b.cells square.number) ≡ true
HasFault b (TwoPawns file) = (side : Side) × TwoPawnsOn b.cells side file

-- The order in which faults are named: too many of a kind, in the order of the kinds; no defender's
-- king; two kings; a dead piece, by square; two pawns, by file.
abbrev pub fault_order : BadPosition → ℕ
fault_order (TooMany kind) = place_of kind
fault_order NoDefenderKing = 8
fault_order TwoKings = 9
fault_order (DeadPiece square) = 10 + square.number
fault_order (TwoPawns file) = 100 + file

-- The outcome for these cells, hands and side: the position that they are, where no fault is there;
-- else the first fault that is there.
abbrev pub IsBuilt : Board → Result Board BadPosition → Type 0
IsBuilt b (Ok position) = (position ≡ b) × ((fault : BadPosition) → HasFault b fault → ⊥)
IsBuilt b (Err fault) = HasFault b fault × ((sooner : BadPosition) → fault_order sooner < fault_order fault → HasFault b sooner → ⊥)
