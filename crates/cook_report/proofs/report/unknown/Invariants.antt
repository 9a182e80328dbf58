use Rattle.std.proofs.Common.{◌≡◌, ◌≤◌, count_by, take}
use Rattle.cook_report.specs.Report.{says_unknown}
use Rattle.cook_report.proofs.report.unknown.Given as goal

abbrev pub invariant-loop-line : goal.invariant-loop-line
invariant-loop-line l = (l.count ≡ count_by says_unknown (take l.line-index l.lines)) × (l.count ≤ l.line-index)
