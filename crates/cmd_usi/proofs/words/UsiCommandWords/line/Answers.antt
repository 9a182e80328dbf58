use Rattle.std.proofs.Common.{◌∙◌}
use Rattle.tsume_words.proofs.Offered.{same_app, same_app_after}
use Rattle.cmd_usi.specs.Line.{usi_line}
use Rattle.cmd_usi.proofs.words.UsiCommandWords.line.Goals as goal

pub returns-clause-app : goal.returns-clause-app
unfolding usi_line
returns-clause-app c =
    same_app_after _ _ _ c.after_help-line.ensures ∙ (same_app _ _ _ c.about.ensures ∙ c.new.ensures.app)
