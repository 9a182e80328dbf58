-- Reports where their lines stand.
use Rattle.std.proofs.Common.{◌≡◌, ◌≤◌, ◌+◌, ◌++◌, ℕ, List, [], ◌∷◌, Option, Some, None, MatchOption, option_to_list, All, length, map, take, drop, get_or, slice_get, suc, refl, sym, subst, ap, ◌∙◌, arith}
use Rattle.std.proofs.lemmas.List.{length-map, take-append-drop, take-append-le, take-map, drop-drop}
use Rattle.std.proofs.lemmas.Option.{same_Some, slice_get-get_or}
use Rattle.cmd_collection.specs.Words.{CollectionView}
use Rattle.search_limits.specs.Sizes.{SettingsView}
use Rattle.problem_lines.specs.declared.line.Line.{Line}
use Rattle.problem_lines.specs.Lines.{NumberedLine, seen}
use Rattle.cmd_collection.specs.ReportsView.{ReportsView, IsNext}
use Rattle.cmd_collection.specs.declared.reports.Reported.{Reported}
use Rattle.cmd_collection.specs.Reports.{IsTrueReport}
use Rattle.cmd_collection.specs.Inside.{IsReportOn, IsReportedAt}
use Rattle.side_by_side.specs.Answers.{AreAnswers}

-- Where each is told of the line at its place, the first lines are told in their order.
lines_told : (all : List Reported) (lines : List Line) → length all ≤ length lines
    → ((k : ℕ) (one : Reported) → slice_get all k ≡ Some one → slice_get lines k ≡ Some one.line) → map (λ one. one.line) all ≡ take (length all) lines
lines_told [] lines within at = refl
lines_told (one ∷ all) [] within at = absurd (omega (arith, within))
lines_told (one ∷ all) (line ∷ lines) within at =
    ap (λ (l : Line). l ∷ map (λ one. one.line) all) (sym (same_Some line one.line (at 0 one refl)))
    ∙ ap (λ (ls : List Line). line ∷ ls) (lines_told all lines (omega (arith, within)) (λ k other there. at (suc k) other there))

pub told_in_order : (s : SettingsView) (f : CollectionView) (lines : List Line) (all : List Reported) → length all ≤ length lines
    → AreAnswers (length all) (IsReportedAt s f lines) all → map (λ one. one.line) all ≡ take (length all) lines
told_in_order s f lines all within are = lines_told all lines within (λ k one there. (are.each k one there).line)

-- And each may be told of its line.
pub all_told : (s : SettingsView) (f : CollectionView) (lines : List Line) (all : List Reported) → AreAnswers (length all) (IsReportedAt s f lines) all
    → All (λ one. IsReportOn s f one.line one.report) all
all_told s f lines all are = λ k d low. (are.each k (get_or all k d) (slice_get-get_or all k d low)).report

seen_lines : (all : List Reported) → map seen (map (λ one. one.line) all) ≡ map (λ one. seen one.line) all
seen_lines [] = refl
seen_lines (one ∷ all) = ap (λ (l : List NumberedLine). seen one.line ∷ l) (seen_lines all)

-- The lines that were left are those that are told ahead, and those behind these.
pub refilled : (lines left : List NumberedLine) (stretch : List Line) (all : List Reported) → lines ≡ map seen stretch ++ left
    → length all ≤ length stretch → map (λ one. one.line) all ≡ take (length all) stretch
    → lines ≡ map (λ one. seen one.line) all ++ drop (length all) lines
refilled lines left stretch all parts within told =
    let n = length all in
    sym (take-append-drop n lines)
    ∙ ap (λ (l : List NumberedLine). l ++ drop n lines)
    (ap (take n) parts ∙ take-append-le n (map seen stretch) left (omega (arith, within, length-map stretch seen)) ∙ take-map seen n stretch
    ∙ ap (map seen) (sym told) ∙ seen_lines all)

-- One more line is skipped.
pub skipped_one : (lines : List NumberedLine) (n : ℕ) (now next : List NumberedLine) (line : Option Line) → now ≡ drop n lines
    → MatchOption line ((now ≡ []) × (next ≡ [])) (λ l. now ≡ seen l ∷ next) → next ≡ drop (n + 1) lines
skipped_one lines n now next None is over = over.1 ∙ ap (drop 1) (sym over.0 ∙ is) ∙ drop-drop 1 n lines
skipped_one lines n now next (Some line) is first = ap (drop 1) (sym first ∙ is) ∙ drop-drop 1 n lines

all_last_of : (s : SettingsView) (f : CollectionView) (ahead rest : List Reported) (one : Reported) → ahead ≡ one ∷ rest
    → All (λ one. IsReportOn s f one.line one.report) ahead → IsReportOn s f one.line one.report
all_last_of s f ahead rest one e all = subst (All (λ one. IsReportOn s f one.line one.report)) e all 0 one (omega arith)

-- Where lines are told ahead, or none are left, the first that is told ahead is the next.
pub next_of : (before : ReportsView) (s : SettingsView) (f : CollectionView) (ahead rest : List Reported) (lines : List NumberedLine) (next : Option Reported)
    → before ≡ record { settings = s; form = f; lines = map (λ one. seen one.line) ahead ++ lines } → (ahead ≡ [] → lines ≡ [])
    → All (λ one. IsReportOn s f one.line one.report) ahead → ahead ≡ option_to_list next ++ rest → MatchOption next (ahead ≡ []) (λ one. Unit {0})
    → MatchOption next ((before.lines ≡ []) × (record { settings = s; form = f; lines = map (λ one. seen one.line) rest ++ lines } ≡ before))
    (λ one. IsNext before (seen one.line) one.report (record { settings = s; form = f; lines = map (λ one. seen one.line) rest ++ lines }))
next_of before s f ahead rest lines None is none all e empty = (
  ap (λ (c : ReportsView). c.lines) is ∙ (ap (λ (l : List Reported). map (λ one. seen one.line) l ++ lines) empty ∙ none empty),
  ap (λ (l : List Reported). record { settings = s; form = f; lines = map (λ one. seen one.line) l ++ lines }) (sym e) ∙ sym is,
)
next_of before s f ahead rest lines (Some one) is none all e empty =
    let told = all_last_of s f ahead rest one e all in record {
      first = ap (λ (c : ReportsView). c.lines) is ∙ ap (λ (l : List Reported). map (λ one. seen one.line) l ++ lines) e;
      true_of = subst (λ (c : ReportsView). IsTrueReport c.settings c.form (seen one.line) one.report) (sym is) told.true_of;
      has_line = told.has_line;
      settings = ap (λ (c : ReportsView). c.settings) (sym is);
      form = ap (λ (c : ReportsView). c.form) (sym is);
    }
