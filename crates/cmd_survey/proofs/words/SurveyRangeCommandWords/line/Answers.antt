use Rattle.std.proofs.Common.{◌∙◌, ap, ap₂}
use Rattle.std.proofs.lemmas.Result.{IfOk-weaker}
use Rattle.clap.specs.Words.{with_rule}
use Rattle.tsume_words.proofs.Offered.{same_app, same_app_after, stays_local}
use Rattle.cmd_survey.specs.Line.{survey_line}
use Rattle.cmd_survey.proofs.words.SurveyRangeCommandWords.line.Goals as goal

pub returns : goal.returns
unfolding survey_line
returns c =
    let bare = same_app_after _ _ _ c.after_help.ensures ∙ (same_app _ _ _ c.about.ensures ∙ c.new.ensures.app) in
    let s = c.seed_option.ensures in
    let n = c.count_option.ensures in
    let e = c.expansions_option.ensures in
    let one = c.in_ok-arg.ensures.shape s.local ∙ ap₂ with_rule bare s.rule in
    let no_0 = ap (λ f. f.has_globals) c.after_help.ensures ∙ (ap (λ f. f.has_globals) c.about.ensures ∙ c.new.ensures.local) in
    let no_1 = stays_local _ _ _ c.in_ok-arg.ensures.globals no_0 s.local in
    let two = c.in_ok-arg-2.ensures.shape n.local ∙ ap₂ with_rule one n.rule in
    let no_2 = stays_local _ _ _ c.in_ok-arg-2.ensures.globals no_1 n.local in
    record {
      app = IfOk-weaker c.arg-3.result _ _ (λ r adds. adds.shape e.local ∙ ap₂ with_rule two e.rule) c.arg-3.ensures;
      local = IfOk-weaker c.arg-3.result _ _ (λ r adds. stays_local _ _ _ adds.globals no_2 e.local) c.arg-3.ensures;
    }
