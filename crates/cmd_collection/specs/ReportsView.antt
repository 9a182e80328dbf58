-- The reports on a collection's lines, one after another.
use Rattle.std.specs.Prelude.{◌≡◌, List, ◌∷◌}
use Rattle.cmd_collection.specs.Words.{CollectionView}
use Rattle.search_limits.specs.Sizes.{SettingsView}
use Rattle.cmd_collection.specs.declared.report.Report.{Report}
use Rattle.cmd_collection.specs.ReportText.{HasReportLine}
use Rattle.problem_lines.specs.Lines.{NumberedLine}
use Rattle.cmd_collection.specs.Reports.{IsTrueReport}

-- Reports that are still to come: with which settings and in which form they are made, and the
-- lines that they are on.
pub record ReportsView : Type 0 where
  pub settings : SettingsView
  pub form : CollectionView
  pub lines : List NumberedLine

-- A report is on the first line that was left, is true of it, and has a text; the others are still
-- to come, with the same settings and in the same form.
pub record IsNext (before : ReportsView) (line : NumberedLine) (report : Report) (after : ReportsView) : Type 0 where
  pub first : before.lines ≡ line ∷ after.lines
  pub true_of : IsTrueReport before.settings before.form line report
  pub has_line : HasReportLine report
  pub settings : after.settings ≡ before.settings
  pub form : after.form ≡ before.form
