-- What the private functions of this crate say of one another; no public clause cites these.
use Rattle.std.specs.Prelude.{◌≡◌, ◌<◌, ℕ, List, Some, Result, IfOk, length, slice_get}
use Rattle.cmd_collection.specs.Words.{CollectionView}
use Rattle.search_limits.specs.Sizes.{SettingsView}
use Rattle.cmd_collection.specs.declared.report.Report.{Report}
use Rattle.cmd_collection.specs.ReportText.{HasReportLine}
use Rattle.problem_lines.specs.Lines.{seen}
use Rattle.problem_lines.specs.declared.line.Line.{Line}
use Rattle.cmd_collection.specs.declared.reports.Reported.{Reported}
use Rattle.cmd_collection.specs.Reports.{IsTrueReport}

-- A report may be told of a line: it is true of it, and has a text.
pub record IsReportOn (settings : SettingsView) (form : CollectionView) (line : Line) (report : Report) : Type 0 where
  pub true_of : IsTrueReport settings form (seen line) report
  pub has_line : HasReportLine report

-- What is told of the line at a place: it is of that line, and may be told of it.
pub record IsReportedAt (settings : SettingsView) (form : CollectionView) (lines : List Line) (place : ℕ) (one : Reported) : Type 0 where
  pub line : slice_get lines place ≡ Some one.line
  pub report : IsReportOn settings form one.line one.report

-- What decides a line may be asked for each line, and tells of it what may be told.
pub record CanDecide {A T E : Type 0} (settings : SettingsView) (form : CollectionView) (lines : List Line)
    (pre : A → T → ℕ → Type 0) (post : A → T → ℕ → Result Reported E → T → Type 0) : Type 0 where
  pub may : (alloc : A) (table : T) (number : ℕ) → number < length lines → pre alloc table number
  pub tells : (alloc : A) (table : T) (number : ℕ) (result : Result Reported E) (after : T) → post alloc table number result after
      → IfOk result (IsReportedAt settings form lines number)
