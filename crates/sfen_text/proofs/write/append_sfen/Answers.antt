use Rattle.sfen_text.specs.Spelling.{sfen_of}
use Rattle.std.proofs.Common.{append_assoc, rules}
use Rattle.sfen_text.proofs.write.append_sfen.Goals as goal

pub returns-clause-text : goal.returns-clause-text
unfolding sfen_of
returns-clause-text c = search (rules, append_assoc)
