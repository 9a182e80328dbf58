-- The main line of a valid certificate is checks and evasions in turn, and the defender is mated
-- behind it.
use Rattle.std.proofs.Common.{◌≡◌, List, [], ◌∷◌, inl, inr, refl, ap, ◌∙◌}
use Rattle.bit_boards.specs.declared.piece.Side.{Side}
use Rattle.bit_boards.specs.Kind.{other}
use Rattle.board_core.specs.declared.moves.Move.{Move}
use Rattle.board_core.specs.declared.moves.Move.TheVariants as moves
use Rattle.board_core.specs.Board.{Board}
use Rattle.shogi_rules.specs.Rules.{after}
use Rattle.mate_def.specs.Mate.{after_both}
use Rattle.play_line.specs.Line.{DoMate}
use Rattle.kif_moves.specs.Playing.{AreInTurn, after_all}
use Rattle.kif_record.specs.Mated.{IsMated}

-- after a check it is the defender's turn
turned : (b : Board) (move : Move) → (after b move).side ≡ other b.side
turned b (moves.Board from to promote) = refl
turned b (moves.Drop piece to) = refl

pub line_in_turn : (attacker : Side) (b : Board) (line : List Move) → DoMate attacker b line
    → AreInTurn attacker b line × IsMated attacker (after_all b line)
line_in_turn attacker b [] does = absurd does
line_in_turn attacker b (check ∷ []) does = (
  (inl does.0, tt),
  record { turn = turned b check ∙ ap other does.0.mover; none = does.1 },
)
line_in_turn attacker b (check ∷ evasion ∷ rest) does =
    let more = line_in_turn attacker (after_both b check evasion) rest does.2 in (
      (inl does.0, (inr does.1, more.0)),
      more.1,
    )
