-- What is told next, and what is left then.
use Rattle.std.proofs.Common.{◌≡◌, ◌∙◌, [], ℕ, List, Option, Some, None, MatchOption, subst}
use Rattle.tsume_io.specs.Sink.{GrewBy}
use Rattle.cmd_collection.specs.Words.{CollectionView}
use Rattle.search_limits.specs.Sizes.{SettingsView}
use Rattle.problem_lines.specs.Lines.{NumberedLine, seen}
use Rattle.one_run.specs.Serial.{AreSoFar, IsPartTold}
use Rattle.one_run.proofs.Offered.{between, so_far_more}
use Rattle.cmd_collection.specs.declared.counts.Counts.{Counts}
use Rattle.cmd_collection.specs.declared.report.Report.{Report}
use Rattle.cmd_collection.specs.declared.reports.Reported.{Reported}
use Rattle.cmd_collection.specs.ReportsView.{ReportsView, IsNext}
use Rattle.cmd_collection.specs.Meaning.{collection_meaning}
use Rattle.cmd_collection.specs.Words.{CollectView}
use Rattle.cmd_collection.specs.Reports.{IsTrueReport}

-- What is next where a report is, and where none is.
pub next_is : (o : Option Reported) (reported : Reported) (before after : ReportsView) → o ≡ Some reported
    → MatchOption o ((before.lines ≡ []) × (after ≡ before)) (λ one. IsNext before (seen one.line) one.report after) → IsNext before (seen reported.line) reported.report after
next_is o reported before after is next =
    subst (λ (x : Option Reported). MatchOption x ((before.lines ≡ []) × (after ≡ before)) (λ one. IsNext before (seen one.line) one.report after)) is next

pub none_is : (o : Option Reported) (before after : ReportsView) → o ≡ None
    → MatchOption o ((before.lines ≡ []) × (after ≡ before)) (λ one. IsNext before (seen one.line) one.report after) → before.lines ≡ []
none_is o before after is next =
    (subst (λ (x : Option Reported). MatchOption x ((before.lines ≡ []) × (after ≡ before)) (λ one. IsNext before (seen one.line) one.report after)) is next).0

-- The next report is true by the settings and in the form.
pub told_by : (asked : CollectView) (before after : ReportsView) (line : NumberedLine) (report : Report) → IsNext before line report after
    → before.settings ≡ asked.settings → before.form ≡ asked.form → IsTrueReport asked.settings asked.form line report
told_by asked before after line report next s f =
    subst (λ (x : SettingsView). IsTrueReport x asked.form line report) s (subst (λ (x : CollectionView). IsTrueReport before.settings x line report) f next.true_of)

-- One more line is decided, and told, and the others are still to come.
pub so_far_next : (asked : CollectView) (all : List NumberedLine) (before after : ReportsView) (line : NumberedLine) (report : Report)
    (told now then : Option (List ℕ)) (f g h : ℕ) (counts more : Counts) (text : List ℕ) → AreSoFar (collection_meaning asked) all before.lines (between told f now g) counts
    → before.settings ≡ asked.settings → before.form ≡ asked.form → IsNext before line report after → IsPartTold (collection_meaning asked) line counts more text
    → GrewBy now then text → h ≡ g
    → AreSoFar (collection_meaning asked) all after.lines (between told f then h) more × (after.settings ≡ asked.settings) × (after.form ≡ asked.form)
so_far_next asked all before after line report told now then f g h counts more text are s e next told_one grew same = (
  so_far_more (collection_meaning asked) all before.lines after.lines line told now then f g h counts more text are next.first told_one grew same,
  next.settings ∙ s,
  next.form ∙ e,
)
