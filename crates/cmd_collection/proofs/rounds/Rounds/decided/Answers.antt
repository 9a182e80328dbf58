use Rattle.std.proofs.Common.{All, List, length, map, take, ap, sym, subst, ◌∙◌}
use Rattle.search_limits.specs.Settings.{settings_in}
use Rattle.cmd_collection.specs.Words.{collection_in}
use Rattle.cmd_collection.specs.declared.reports.Reported.{Reported}
use Rattle.cmd_collection.specs.Inside.{IsReportOn}
use Rattle.cmd_collection.proofs.Places.{told_in_order, all_told}
use Rattle.cmd_collection.proofs.rounds.Rounds.decided.Goals as goal

pub returns-clause-lines : goal.returns-clause-lines
returns-clause-lines g c =
    ap (map (λ one. one.line)) c.from.ensures.0
    ∙ told_in_order (settings_in c.args.deciding.now.settings.now) (collection_in c.args.deciding.now.form.now) c.args.lines.now c.in_ok-all.all.items c.in_ok-all.ensures.first c.in_ok-all.ensures.reports
    ∙ ap (λ (all : List Reported). take (length all) c.args.lines.now) (sym c.from.ensures.0)

pub returns-clause-reports : goal.returns-clause-reports
returns-clause-reports g c =
    subst (All (λ one. IsReportOn (settings_in c.args.deciding.now.settings.now) (collection_in c.args.deciding.now.form.now) one.line one.report)) (sym c.from.ensures.0)
    (all_told (settings_in c.args.deciding.now.settings.now) (collection_in c.args.deciding.now.form.now) c.args.lines.now c.in_ok-all.all.items c.in_ok-all.ensures.reports)
