use Rattle.std.proofs.Common.{◌∙◌, ap, ap₂}
use Rattle.std.proofs.lemmas.Result.{IfOk-weaker}
use Rattle.clap.specs.Words.{with_rule}
use Rattle.tsume_words.proofs.Offered.{same_app, same_app_after, stays_local}
use Rattle.cmd_solve.specs.Line.{solve_line, with_search}
use Rattle.cmd_solve.proofs.words.SolveWordsCommandWords.line.Goals as goal

pub returns : goal.returns
unfolding solve_line
returns c =
    let bare = same_app_after _ _ _ c.after_help-line.ensures ∙ (same_app _ _ _ c.about.ensures ∙ c.new.ensures.app) in
    let none = ap (λ f. f.has_globals) c.after_help-line.ensures ∙ (ap (λ f. f.has_globals) c.about.ensures ∙ c.new.ensures.local) in
    let o = c.library_flag.ensures in
    let one = c.in_ok-arg.ensures.shape o.local ∙ ap₂ with_rule bare o.rule in
    let still_none = stays_local _ _ _ c.in_ok-arg.ensures.globals none o.local in
    record {
      app = IfOk-weaker c.search_options.result _ _ (λ r same. same ∙ ap with_search one) c.search_options.ensures.app;
      local = c.search_options.ensures.local still_none;
    }
