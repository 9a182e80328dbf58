use Rattle.std.proofs.Common.{◌≡◌, ◌<◌, ℕ, Some, slice_get}
use Rattle.cook_report.specs.declared.report.Line.{Line}
use Rattle.cook_report.specs.Valid.{IsLineOf}
use Rattle.cook_report.specs.Shown.{ShowsOf}
use Rattle.cook_report.proofs.checking.check_report.Given as goal

abbrev pub invariant-loop-line : goal.invariant-loop-line
invariant-loop-line l = (k : ℕ) (line : Line) → k < l.line-index → slice_get l.lines k ≡ Some line → IsLineOf l.problem.position line × ShowsOf l.problem.position line
