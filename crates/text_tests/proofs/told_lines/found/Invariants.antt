-- Each line that is given is one less to come.
use Rattle.std.proofs.Common.{length}
use Rattle.text_tests.proofs.told_lines.found.Given as goal

abbrev pub decreases-loop-line : goal.decreases-loop-line
decreases-loop-line l = length l.lines
