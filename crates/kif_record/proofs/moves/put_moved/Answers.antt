use Rattle.std.proofs.Common.{append_assoc, rules}
use Rattle.kif_record.proofs.moves.put_moved.Goals as goal

pub returns-in_ok-put_text-in-Drop : goal.returns-in_ok-put_text-in-Drop
unfolding lib.Utf8.encode
returns-in_ok-put_text-in-Drop c = rw c.in-Drop.is (search (rules, append_assoc))
