use Rattle.std.proofs.Common.{length}
use Rattle.fact_tests.proofs.extraction.+mated.Given as goal

abbrev pub decreases-mated : goal.decreases-mated
decreases-mated g l = length l.checks.now
