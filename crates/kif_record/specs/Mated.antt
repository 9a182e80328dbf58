-- When the defender is mated.
use Rattle.std.specs.Prelude.{◌≡◌}
use Rattle.bit_boards.specs.declared.piece.Side.{Side}
use Rattle.bit_boards.specs.Kind.{other}
use Rattle.board_core.specs.declared.moves.Move.{Move}
use Rattle.board_core.specs.Board.{Board}
use Rattle.shogi_rules.specs.Tsume.{IsEvasion}

-- The defender is to move, and has no evasion: he is mated.
pub record IsMated (attacker : Side) (b : Board) : Type 0 where
  pub turn : b.side ≡ other attacker
  pub none : (evasion : Move) → ¬ IsEvasion attacker b evasion
