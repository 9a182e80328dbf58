use Rattle.std.proofs.Common.{length}
use Rattle.cert_text.specs.Scan.{HasRead}
use Rattle.cert_text.proofs.lines.read_lines.Given as goal

abbrev pub invariant-loop-line : goal.invariant-loop-line
invariant-loop-line g l = HasRead (g.E.Entry.form l.problem.position) l.text l.entries.items l.rest l.last

abbrev pub decreases-loop-line : goal.decreases-loop-line
decreases-loop-line g l = length l.rest
