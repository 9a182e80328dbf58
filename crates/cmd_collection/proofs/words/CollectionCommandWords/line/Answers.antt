use Rattle.std.proofs.Common.{◌∙◌, ap, ap₂}
use Rattle.std.proofs.lemmas.Result.{IfOk-weaker}
use Rattle.clap.specs.Words.{with_rule}
use Rattle.tsume_words.proofs.Offered.{same_app, same_app_after, stays_local}
use Rattle.cmd_collection.specs.Line.{collection_line}
use Rattle.cmd_collection.proofs.words.CollectionCommandWords.line.Goals as goal

pub returns : goal.returns
unfolding collection_line
returns c =
    let bare = same_app_after _ _ _ c.after_help.ensures ∙ (same_app _ _ _ c.about.ensures ∙ c.new.ensures.app) in
    let e = c.expansions_option.ensures in
    let n = c.room_option.ensures in
    let r = c.rows_option.ensures in
    let s = c.shards_option.ensures in
    let t = c.threads_option.ensures in
    let d = c.deadline_option.ensures in
    let o = c.first_option.ensures in
    let f = c.rest_flag.ensures in
    let p = c.certificates_flag.ensures in
    let m = c.remarks_flag.ensures in
    let g = c.progress_flag.ensures in
    let w_file = c.file_word.ensures in
    let no_0 = ap (λ f. f.has_globals) c.after_help.ensures ∙ (ap (λ f. f.has_globals) c.about.ensures ∙ c.new.ensures.local) in
    let one = c.in_ok-arg.ensures.shape e.local ∙ ap₂ with_rule bare e.rule in
    let no_1 = stays_local _ _ _ c.in_ok-arg.ensures.globals no_0 e.local in
    let two = c.in_ok-arg-2.ensures.shape n.local ∙ ap₂ with_rule one n.rule in
    let no_2 = stays_local _ _ _ c.in_ok-arg-2.ensures.globals no_1 n.local in
    let three = c.in_ok-arg-3.ensures.shape r.local ∙ ap₂ with_rule two r.rule in
    let no_3 = stays_local _ _ _ c.in_ok-arg-3.ensures.globals no_2 r.local in
    let four = c.in_ok-arg-4.ensures.shape s.local ∙ ap₂ with_rule three s.rule in
    let no_4 = stays_local _ _ _ c.in_ok-arg-4.ensures.globals no_3 s.local in
    let five = c.in_ok-arg-5.ensures.shape t.local ∙ ap₂ with_rule four t.rule in
    let no_5 = stays_local _ _ _ c.in_ok-arg-5.ensures.globals no_4 t.local in
    let six = c.in_ok-arg-6.ensures.shape d.local ∙ ap₂ with_rule five d.rule in
    let no_6 = stays_local _ _ _ c.in_ok-arg-6.ensures.globals no_5 d.local in
    let seven = c.in_ok-arg-7.ensures.shape o.local ∙ ap₂ with_rule six o.rule in
    let no_7 = stays_local _ _ _ c.in_ok-arg-7.ensures.globals no_6 o.local in
    let eight = c.in_ok-arg-8.ensures.shape f.local ∙ ap₂ with_rule seven f.rule in
    let no_8 = stays_local _ _ _ c.in_ok-arg-8.ensures.globals no_7 f.local in
    let nine = c.in_ok-arg-9.ensures.shape p.local ∙ ap₂ with_rule eight p.rule in
    let no_9 = stays_local _ _ _ c.in_ok-arg-9.ensures.globals no_8 p.local in
    let ten = c.in_ok-arg-10.ensures.shape m.local ∙ ap₂ with_rule nine m.rule in
    let no_10 = stays_local _ _ _ c.in_ok-arg-10.ensures.globals no_9 m.local in
    let eleven = c.in_ok-arg-11.ensures.shape g.local ∙ ap₂ with_rule ten g.rule in
    let no_11 = stays_local _ _ _ c.in_ok-arg-11.ensures.globals no_10 g.local in
    record {
      app = IfOk-weaker c.arg-12.result _ _ (λ r adds. adds.shape w_file.local ∙ ap₂ with_rule eleven w_file.rule) c.arg-12.ensures;
      local = IfOk-weaker c.arg-12.result _ _ (λ r adds. stays_local _ _ _ adds.globals no_11 w_file.local) c.arg-12.ensures;
    }
