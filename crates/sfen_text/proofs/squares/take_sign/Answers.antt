use Rattle.std.proofs.Common.{arith}
use Rattle.sfen_text.proofs.Filling.{run_taken, piece_taken}
use Rattle.sfen_text.proofs.squares.take_sign.Goals as goal

pub returns-else-count-filling : goal.returns-else-count-filling
returns-else-count-filling c = rw c.in-Run.is (run_taken c.args.filling.now c.in-Run.count c.args.at c.requires c.if-count-filling.false)

pub returns-else-filling-eq0-2 : goal.returns-else-filling-eq0-2
returns-else-filling-eq0-2 c = rw c.in-Stands.is (piece_taken c.args.filling.now c.in-Stands.piece c.args.at c.requires (omega arith))
