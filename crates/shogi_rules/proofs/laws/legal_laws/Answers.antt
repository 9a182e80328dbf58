use Rattle.shogi_rules.proofs.Admitted.{board_legal, drops_legal}
use Rattle.shogi_rules.proofs.laws.legal_laws.Goals as goal

pub returns : goal.returns
returns c = record { board = board_legal; drops = drops_legal }
