use Rattle.std.proofs.Common.{rules}
use Rattle.sfen_text.proofs.Offered.{promoted_is}
use Rattle.kif_text.proofs.characters.promoted.Goals as goal

pub returns : goal.returns
returns c = promoted_is c.args.side c.args.kind _ (search rules)
