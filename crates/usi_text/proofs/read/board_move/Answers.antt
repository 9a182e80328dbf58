use Rattle.usi_text.proofs.Texts.{no_origin}
use Rattle.usi_text.proofs.read.board_move.Goals as goal

pub returns-in_err-from : goal.returns-in_err-from
returns-in_err-from c = rw c.from_residual.ensures (no_origin _ _ _ _ _ c.requires c.in_err-from.ensures.none)
