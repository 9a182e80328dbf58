use Rattle.std.proofs.Common.{◌∙◌, ap₂}
use Rattle.std.proofs.lemmas.Result.{IfOk-weaker}
use Rattle.clap.specs.Words.{with_rule}
use Rattle.tsume_words.proofs.Offered.{same_app, same_app_after}
use Rattle.cmd_upgrade.specs.Line.{upgrade_line}
use Rattle.cmd_upgrade.proofs.words.UpgradeCommandWords.line.Goals as goal

pub returns-clause-app : goal.returns-clause-app
unfolding upgrade_line
returns-clause-app c =
    let bare = same_app_after _ _ _ c.after_help.ensures ∙ (same_app _ _ _ c.about.ensures ∙ c.new.ensures.app) in
    let f = c.file_word.ensures in
    IfOk-weaker c.arg.result _ _ (λ r adds. adds.shape f.local ∙ ap₂ with_rule bare f.rule) c.arg.ensures
