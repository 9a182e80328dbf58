use Rattle.std.proofs.Common.{append_assoc, rules}
use Rattle.kif_record.proofs.diagram.put_row.Goals as goal

pub returns : goal.returns
unfolding lib.Utf8.encode
returns c = search (rules, append_assoc)
