use Rattle.std.proofs.Common.{◌∙◌, ap, ap₂}
use Rattle.std.proofs.lemmas.Result.{IfOk-weaker}
use Rattle.clap.specs.Words.{with_rule}
use Rattle.tsume_words.proofs.Offered.{same_app, same_app_after, stays_local}
use Rattle.cmd_shortest.specs.Line.{shortest_line}
use Rattle.cmd_shortest.proofs.words.ShortestCommandWords.line.Goals as goal

pub returns : goal.returns
unfolding shortest_line
returns c =
    let bare = same_app_after _ _ _ c.after_help.ensures ∙ (same_app _ _ _ c.about.ensures ∙ c.new.ensures.app) in
    let l = c.limit_option.ensures in
    let e = c.expansions_option.ensures in
    let d = c.deadline_option.ensures in
    let k = c.kif_flag.ensures in
    let f = c.rest_flag.ensures in
    let p = c.progress_flag.ensures in
    let w_file = c.file_word.ensures in
    let no_0 = ap (λ f. f.has_globals) c.after_help.ensures ∙ (ap (λ f. f.has_globals) c.about.ensures ∙ c.new.ensures.local) in
    let one = c.in_ok-arg.ensures.shape l.local ∙ ap₂ with_rule bare l.rule in
    let no_1 = stays_local _ _ _ c.in_ok-arg.ensures.globals no_0 l.local in
    let two = c.in_ok-arg-2.ensures.shape e.local ∙ ap₂ with_rule one e.rule in
    let no_2 = stays_local _ _ _ c.in_ok-arg-2.ensures.globals no_1 e.local in
    let three = c.in_ok-arg-3.ensures.shape d.local ∙ ap₂ with_rule two d.rule in
    let no_3 = stays_local _ _ _ c.in_ok-arg-3.ensures.globals no_2 d.local in
    let four = c.in_ok-arg-4.ensures.shape k.local ∙ ap₂ with_rule three k.rule in
    let no_4 = stays_local _ _ _ c.in_ok-arg-4.ensures.globals no_3 k.local in
    let five = c.in_ok-arg-5.ensures.shape f.local ∙ ap₂ with_rule four f.rule in
    let no_5 = stays_local _ _ _ c.in_ok-arg-5.ensures.globals no_4 f.local in
    let six = c.in_ok-arg-6.ensures.shape p.local ∙ ap₂ with_rule five p.rule in
    let no_6 = stays_local _ _ _ c.in_ok-arg-6.ensures.globals no_5 p.local in
    record {
      app = IfOk-weaker c.arg-7.result _ _ (λ r adds. adds.shape w_file.local ∙ ap₂ with_rule six w_file.rule) c.arg-7.ensures;
      local = IfOk-weaker c.arg-7.result _ _ (λ r adds. stays_local _ _ _ adds.globals no_6 w_file.local) c.arg-7.ensures;
    }
