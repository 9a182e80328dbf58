use Rattle.std.proofs.Common.{length}
use Rattle.cert_text.proofs.UpToEnd.{HasPassed}
use Rattle.cert_text.proofs.lines.up_to_end.Given as goal

abbrev pub invariant-loop-line : goal.invariant-loop-line
invariant-loop-line l = HasPassed l.text l.rest

abbrev pub decreases-loop-line : goal.decreases-loop-line
decreases-loop-line l = length l.rest
