use Rattle.std.proofs.Common.{◌∙◌, ap, ap₂}
use Rattle.std.proofs.lemmas.Result.{IfOk-weaker}
use Rattle.clap.specs.Words.{with_rule}
use Rattle.tsume_words.proofs.Offered.{same_app, same_app_after, stays_local}
use Rattle.cmd_check.specs.Line.{check_line}
use Rattle.cmd_check.proofs.words.CheckCommandWords.line.Goals as goal

pub returns : goal.returns
unfolding check_line
returns c =
    let bare = same_app_after _ _ _ c.after_help.ensures ∙ (same_app _ _ _ c.about.ensures ∙ c.new.ensures.app) in
    let w = c.workers_option.ensures in
    let p = c.problem_option.ensures in
    let one = c.in_ok-arg.ensures.shape w.local ∙ ap₂ with_rule bare w.rule in
    let no_0 = ap (λ f. f.has_globals) c.after_help.ensures ∙ (ap (λ f. f.has_globals) c.about.ensures ∙ c.new.ensures.local) in
    let no_1 = stays_local _ _ _ c.in_ok-arg.ensures.globals no_0 w.local in
    let b = c.bound_flag.ensures in
    let o = c.collection_flag.ensures in
    let t = c.told_flag.ensures in
    let f = c.file_word.ensures in
    let two = c.in_ok-arg-2.ensures.shape p.local ∙ ap₂ with_rule one p.rule in
    let no_2 = stays_local _ _ _ c.in_ok-arg-2.ensures.globals no_1 p.local in
    let three = c.in_ok-arg-3.ensures.shape b.local ∙ ap₂ with_rule two b.rule in
    let no_3 = stays_local _ _ _ c.in_ok-arg-3.ensures.globals no_2 b.local in
    let four = c.in_ok-arg-4.ensures.shape o.local ∙ ap₂ with_rule three o.rule in
    let no_4 = stays_local _ _ _ c.in_ok-arg-4.ensures.globals no_3 o.local in
    let five = c.in_ok-arg-5.ensures.shape t.local ∙ ap₂ with_rule four t.rule in
    let no_5 = stays_local _ _ _ c.in_ok-arg-5.ensures.globals no_4 t.local in
    record {
      app = IfOk-weaker c.arg-6.result _ _ (λ r adds. adds.shape f.local ∙ ap₂ with_rule five f.rule) c.arg-6.ensures;
      local = IfOk-weaker c.arg-6.result _ _ (λ r adds. stays_local _ _ _ adds.globals no_5 f.local) c.arg-6.ensures;
    }
