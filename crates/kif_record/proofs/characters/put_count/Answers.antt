use Rattle.std.proofs.Common.{append_assoc, rules}
use Rattle.kif_record.proofs.characters.put_count.Goals as goal

pub returns : goal.returns
unfolding lib.Utf8.encode
returns c = search (rules, append_assoc)
