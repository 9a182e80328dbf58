-- Whatever is true of the lines that are left, goes on what is true of all.
use Rattle.std.proofs.Common.{◌++◌, List, length, map}
use Rattle.collection_text.specs.Told.{told_lines}
use Rattle.cmd_certificates.specs.Answer.{AreJudged}
use Rattle.cmd_certificates.specs.Judged.{JudgedView, seen}
use Rattle.cmd_certificates.proofs.judging.judged.Given as goal

abbrev pub invariant-loop-line : goal.invariant-loop-line
invariant-loop-line g l = (more : List JudgedView) → AreJudged l.lines more → AreJudged (told_lines l.input) (map seen l.judged.items ++ more)

abbrev pub decreases-loop-line : goal.decreases-loop-line
decreases-loop-line g l = length l.lines
