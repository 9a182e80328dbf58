use Rattle.sfen_text.proofs.Filling.{nothing_filled}
use Rattle.sfen_text.proofs.squares.nothing_filled.Goals as goal

pub returns-clause-filling : goal.returns-clause-filling
returns-clause-filling c = nothing_filled
