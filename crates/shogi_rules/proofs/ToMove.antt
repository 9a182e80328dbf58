-- Whose turn it is after a move.
use Rattle.std.proofs.Common.{◌≡◌, refl, ap, ◌∙◌}
use Rattle.board_laws.proofs.Sides.{other_twice}
use Rattle.bit_boards.specs.declared.piece.Side.{Side}
use Rattle.bit_boards.specs.Kind.{other}
use Rattle.board_core.specs.declared.moves.Move.{Move}
use Rattle.board_core.specs.declared.moves.Move.TheVariants as moves
use Rattle.board_core.specs.Board.{Board}
use Rattle.shogi_rules.specs.Rules.{after}
use Rattle.shogi_rules.specs.Tsume.{IsCheck, IsEvasion}

pub turn_after : (b : Board) (move : Move) → (after b move).side ≡ other b.side
turn_after b (moves.Board from to promote) = refl
turn_after b (moves.Drop dropped to) = refl

pub after_check : (attacker : Side) (b : Board) (check : Move) → IsCheck attacker b check → (after b check).side ≡ other attacker
after_check attacker b check is = turn_after b check ∙ ap other is.mover

pub after_evasion : (attacker : Side) (b : Board) (evasion : Move) → IsEvasion attacker b evasion → (after b evasion).side ≡ attacker
after_evasion attacker b evasion is = turn_after b evasion ∙ (ap other is.mover ∙ other_twice attacker)
