use Rattle.kif_record.specs.Diagram.{board_text}
use Rattle.kif_record.proofs.Writing.{four_put}
use Rattle.kif_record.proofs.diagram.put_board.Goals as goal

pub returns : goal.returns
unfolding board_text lib.Utf8.encode
returns c = four_put _ _ _ _ _ _ _ _ _ _ c.in_ok-put_line.ensures c.in_ok-put_line-2.ensures c.in_ok-put_rows.ensures c.put_line-3.ensures
