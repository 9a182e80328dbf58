use Rattle.std.proofs.Common.{take}
use Rattle.cert_text.specs.Reading.{Lacks}
use Rattle.cert_text.proofs.parts.cut.Given as goal

abbrev pub invariant-loop-i : goal.invariant-loop-i
invariant-loop-i l = Lacks l.byte (take l.i l.text)
