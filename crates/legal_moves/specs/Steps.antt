-- What private functions keep of squares to which a piece goes: it serves them alone.
use Rattle.std.specs.Prelude.{◌≡◌, ◌≢◌, ◌<◌, ℕ, Option, Some, None, Bool}
use Rattle.bit_boards.specs.declared.square.Square.{Square}
use Rattle.bit_boards.specs.declared.piece.Piece.{Piece}
use Rattle.bit_boards.specs.declared.mask.Mask.{Mask}
use Rattle.bit_boards.specs.Kind.{other}
use Rattle.bit_boards.specs.Mask.{Holds}
use Rattle.board_core.specs.Board.{Board, piece_at}
use Rattle.shogi_rules.specs.Rules.{IsOwn, Reaches, IsInCheck, after_board}
use Rattle.attack_lines.specs.Lines.{AttacksWithout}
use Rattle.legal_moves.specs.Legal.{IsLegalBoard, StopsOnceLeft}

-- A piece other than the king that goes there leaves the king, where there is one, unattacked.
abbrev pub KeepsKing : Board → Option Square → ℕ → ℕ → Type 0
KeepsKing b None from to = Unit {0}
KeepsKing b (Some king) from to = StopsOnceLeft b from to king.number

-- No enemy piece attacks the square once the king has left his.
abbrev pub IsOpenTo : Board → ℕ → ℕ → Type 0
IsOpenTo b king to = (from : ℕ) → from < 81 → ¬ AttacksWithout b.cells (other b.side) king from to

-- The piece of the side to move stands there, and every square of the set is another one, where no
-- piece of that side stands.
pub record LeavesFor (b : Board) (from : ℕ) (piece : Piece) (squares : Mask) : Type 0 where
  pub there : piece_at b.cells from ≡ Some piece
  pub own : piece.side ≡ b.side
  pub apart : (to : ℕ) → Holds squares to → from ≢ to
  pub free : (to : ℕ) → Holds squares to → ¬ IsOwn b to

-- The piece reaches the square from this one, none of the side to move stands there, and its king
-- isn't attacked after the move.
pub record MayGo (b : Board) (from to : ℕ) (promote : Bool) (piece : Piece) : Type 0 where
  pub on_board : to < 81
  pub reach : Reaches b.cells piece from to
  pub free : ¬ IsOwn b to
  pub safe : ¬ IsInCheck (after_board b from to promote).cells b.side

-- The piece on the square has a legal move.
pub record MovesFrom (b : Board) (from : ℕ) : Type 0 where
  pub to : ℕ
  pub promote : Bool
  pub on_board : to < 81
  pub legal : IsLegalBoard b from to promote
