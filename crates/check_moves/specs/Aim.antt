-- What is aimed at the defender's king: it serves private functions alone.
use Rattle.std.specs.Prelude.{◌≡◌, ◌↔◌, ℕ, true}
use Rattle.bit_boards.specs.Kind.{other}
use Rattle.bit_boards.specs.Mask.{Holds}
use Rattle.board_core.specs.Board.{Board, piece_at, is_king_of}
use Rattle.attack_lines.specs.Lines.{IsShield, IsSightOf}
use Rattle.legal_moves.specs.Legal.{IsGuardOf}
use Rattle.check_moves.specs.declared.aim.Aim.{Aim}

-- The aim is at the one king of the side not to move: what his square sees, the squares on which a
-- piece alone keeps a piece of the side to move from attacking him, and the guard of the side to
-- move.
pub record IsAimOf (b : Board) (aim : Aim) : Type 0 where
  pub king : is_king_of (other b.side) (piece_at b.cells aim.sight.square.number) ≡ true
  pub only : (square : ℕ) → is_king_of (other b.side) (piece_at b.cells square) ≡ true → square ≡ aim.sight.square.number
  pub sight : IsSightOf b.cells aim.sight
  pub unveilers : (square : ℕ) → Holds aim.unveilers square ↔ IsShield b.cells b.side square aim.sight.square.number
  pub guard : IsGuardOf b aim.guard
