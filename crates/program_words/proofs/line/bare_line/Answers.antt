use Rattle.std.proofs.Common.{◌∙◌}
use Rattle.tsume_words.proofs.Offered.{all_set, same_app, same_app_after}
use Rattle.program_words.proofs.line.bare_line.Goals as goal

pub returns : goal.returns
returns c =
    let made = same_app_after _ _ _ c.after_help.ensures ∙ (same_app _ _ _ c.about.ensures ∙ c.new.ensures.app) in
    all_set _ _ _ _ _ _ made c.version.ensures c.subcommand_required.ensures c.arg_required_else_help.ensures
