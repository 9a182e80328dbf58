use Rattle.std.proofs.Common.{arith}
use Rattle.cert_text.proofs.Cuts.{lacks_more}
use Rattle.cert_text.proofs.parts.cut.Goals as goal

pub loop-i-preserved : goal.loop-i-preserved
loop-i-preserved c = lacks_more c.args.byte c.args.text.now c.loop-i.i (omega arith) c.loop-i.invariant c.if-found-byte.false
