-- The tsume rule: the attacker may only give check, the defender may make any legal move.
use Rattle.std.specs.Prelude.{◌≡◌}
use Rattle.bit_boards.specs.declared.piece.Side.{Side}
use Rattle.board_core.specs.declared.moves.Move.{Move}
use Rattle.bit_boards.specs.Kind.{other}
use Rattle.board_core.specs.Board.{Board, HasDefender}
use Rattle.shogi_rules.specs.Rules.{IsInCheck, IsQuiet, IsLegal, after}

-- A problem: the side not to move, the defender, has a king, and isn't in check.
pub record IsProblem (b : Board) : Type 0 where
  pub has_king : HasDefender b
  pub quiet : IsQuiet b

-- A check: a legal move of the attacker after which the defender's king is attacked.
pub record IsCheck (attacker : Side) (b : Board) (move : Move) : Type 0 where
  pub mover : b.side ≡ attacker
  pub legal : IsLegal b move
  pub check : IsInCheck (after b move).cells (other attacker)

-- An evasion: a legal move of the defender.
pub record IsEvasion (attacker : Side) (b : Board) (move : Move) : Type 0 where
  pub mover : b.side ≡ other attacker
  pub legal : IsLegal b move
