use Rattle.std.proofs.Common.{length}
use Rattle.command_tests.proofs.collections.told_before.Given as goal

abbrev pub decreases-loop-reports : goal.decreases-loop-reports
decreases-loop-reports g l = length l.reports.lines
