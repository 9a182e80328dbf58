use Rattle.std.proofs.Common.{rules}
use Rattle.sfen_text.proofs.Filling.{promoted_is}
use Rattle.sfen_text.proofs.pieces.promoted_piece.Goals as goal

pub returns : goal.returns
returns c = promoted_is c.args.side c.args.kind _ (search rules)
