use Rattle.std.proofs.Common.{refl}
use Rattle.kif_record.proofs.record.ending.Goals as goal

pub returns-then-mated : goal.returns-then-mated
unfolding lib.Utf8.encode
returns-then-mated c = rw c.if-mated.true refl

pub returns-else-mated : goal.returns-else-mated
unfolding lib.Utf8.encode
returns-else-mated c = rw c.if-mated.false refl
