use Rattle.kif_record.specs.Diagram.{diagram_text}
use Rattle.kif_record.proofs.Writing.{four_put}
use Rattle.kif_record.proofs.diagram.put_diagram.Goals as goal

pub returns : goal.returns
unfolding diagram_text lib.Utf8.encode
returns c = four_put _ _ _ _ _ _ _ _ _ _ c.in_ok-put_hand.ensures c.in_ok-put_board.ensures c.in_ok-put_hand-2.ensures c.put_turn.ensures
