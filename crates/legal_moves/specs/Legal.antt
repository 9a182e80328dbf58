-- Legal moves by the numbers of squares of the board, and what the king of the side to move needs
-- to be safe.
use Rattle.std.specs.Prelude.{◌≡◌, ◌<◌, ◌↔◌, ◌⊎◌, ℕ, Option, Some, None, Bool, true, false}
use Rattle.bit_boards.specs.declared.piece.Kind.{Kind}
use Rattle.bit_boards.specs.declared.square.Square.{Square}
use Rattle.bit_boards.specs.declared.mask.Mask.{Mask}
use Rattle.bit_boards.specs.Kind.{other}
use Rattle.bit_boards.specs.Mask.{Holds}
use Rattle.bit_boards.specs.Movement.{IsBetween}
use Rattle.board_core.specs.Board.{Board, piece_at, is_king_of}
use Rattle.shogi_rules.specs.Rules.{AttacksFrom, RefusesBoard, RefusesDrop}
use Rattle.shogi_rules.specs.declared.illegal.Illegal.{Illegal}
use Rattle.attack_lines.specs.Lines.{AttacksWithout, IsShield}
use Rattle.legal_moves.specs.declared.guard.Guard.{Guard}

-- Nothing speaks against the move from the one square of the board to the other, promoting where
-- the last argument says so, else not promoting.
abbrev pub IsLegalBoard : Board → ℕ → ℕ → Bool → Type 0
IsLegalBoard b from to promote = (why : Illegal) → ¬ RefusesBoard b from to promote why

-- Nothing speaks against the drop of a piece of the kind on the square of the board.
abbrev pub IsLegalDrop : Board → Kind → ℕ → Type 0
IsLegalDrop b kind to = (why : Illegal) → ¬ RefusesDrop b kind to why

-- A piece of the side to move that comes to the square `to` stops whoever attacks the square `king`
-- now: it takes him, or stands between.
abbrev pub StopsAttackers : Board → ℕ → ℕ → Type 0
StopsAttackers b to king = (from : ℕ) → from < 81 → AttacksFrom b.cells (other b.side) from king → (to ≡ from) ⊎ IsBetween from to king

-- A piece that goes from the one square to `to` stops whoever attacks the square `king` once that
-- piece has left: it takes him, or stands between.
abbrev pub StopsOnceLeft : Board → ℕ → ℕ → ℕ → Type 0
StopsOnceLeft b left to king = (from : ℕ) → from < 81 → AttacksWithout b.cells (other b.side) left from king → (to ≡ from) ⊎ IsBetween from to king

-- The one king of the side to move stands there; the one set are the squares on which another piece
-- stops each of his attackers, the other those on which a piece, of either side, alone keeps an
-- enemy piece from attacking him.
pub record IsGuarded (b : Board) (king : Square) (stopping shielding : Mask) : Type 0 where
  pub here : is_king_of b.side (piece_at b.cells king.number) ≡ true
  pub only : (square : ℕ) → is_king_of b.side (piece_at b.cells square) ≡ true → square ≡ king.number
  pub blocks : (to : ℕ) → Holds stopping to ↔ ((to < 81) × StopsAttackers b to king.number)
  pub shields : (square : ℕ) → Holds shielding square ↔ IsShield b.cells (other b.side) square king.number

-- The side to move has no king, so the set has every square of the board.
pub record IsKingless (b : Board) (stopping : Mask) : Type 0 where
  pub none : (square : ℕ) → is_king_of b.side (piece_at b.cells square) ≡ false
  pub all : (square : ℕ) → square < 81 → Holds stopping square

-- What the parts of a guard say, where the side to move has a king and where it has none.
abbrev pub AreGuarding : Board → Option Square → Mask → Mask → Type 0
AreGuarding b None stopping shielding = IsKingless b stopping
AreGuarding b (Some king) stopping shielding = IsGuarded b king stopping shielding

-- The guard is that of the side to move.
abbrev pub IsGuardOf : Board → Guard → Type 0
IsGuardOf b guard = AreGuarding b guard.king guard.blocks guard.shields
