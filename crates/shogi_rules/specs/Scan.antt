-- What the loops look for, a square at a time: it serves private functions alone.
use Rattle.std.specs.Prelude.{◌≡◌, ◌<◌, ◌⊎◌, ℕ, true, false}
use Rattle.board_core.specs.Board.{Board}
use Rattle.bit_boards.specs.declared.piece.Kind.{Kind}
use Rattle.bit_boards.specs.declared.piece.Kind.TheVariants.{Pawn}
use Rattle.shogi_rules.specs.Rules.{RefusesBoard, BoardMove, IsInCheck}
use Rattle.shogi_rules.specs.declared.illegal.Illegal.{Illegal}

-- Nothing speaks against the move from the one square to the other, promoting or not.
pub record GoesTo (b : Board) (from to : ℕ) : Type 0 where
  pub either : ((why : Illegal) → ¬ RefusesBoard b from to false why) ⊎ ((why : Illegal) → ¬ RefusesBoard b from to true why)

-- Nothing speaks against some move on the board from the square.
pub record GoesFrom (b : Board) (from : ℕ) : Type 0 where
  pub to : ℕ
  pub on_board : to < 81
  pub goes : GoesTo b from to

-- The side to move is in check after a pawn's drop, and has no move on the board that leaves its
-- king safe.
pub record IsStuck (b : Board) (kind : Kind) : Type 0 where
  pub pawn : kind ≡ Pawn
  pub check : IsInCheck b.cells b.side
  pub no_move : ¬ BoardMove b
