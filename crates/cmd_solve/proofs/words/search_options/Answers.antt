use Rattle.std.proofs.Common.{◌∙◌, ap₂, refl}
use Rattle.std.proofs.lemmas.Result.{IfOk-weaker}
use Rattle.clap.specs.Words.{with_rule}
use Rattle.tsume_words.proofs.Offered.{stays_local}
use Rattle.cmd_solve.proofs.words.search_options.Goals as goal

pub returns-clause-app : goal.returns-clause-app
returns-clause-app c =
    let w = c.workers_option.ensures in
    let e = c.expansions_option.ensures in
    let n = c.room_option.ensures in
    let r = c.rows_option.ensures in
    let s = c.shards_option.ensures in
    let one = c.in_ok-arg.ensures.shape w.local ∙ ap₂ with_rule refl w.rule in
    let two = c.in_ok-arg-2.ensures.shape e.local ∙ ap₂ with_rule one e.rule in
    let three = c.in_ok-arg-3.ensures.shape n.local ∙ ap₂ with_rule two n.rule in
    let four = c.in_ok-arg-4.ensures.shape r.local ∙ ap₂ with_rule three r.rule in
    let five = c.in_ok-arg-5.ensures.shape s.local ∙ ap₂ with_rule four s.rule in
    let d = c.deadline_option.ensures in
    let k = c.kif_flag.ensures in
    let f = c.rest_flag.ensures in
    let p = c.progress_flag.ensures in
    let w_file = c.file_word.ensures in
    let six = c.in_ok-arg-6.ensures.shape d.local ∙ ap₂ with_rule five d.rule in
    let seven = c.in_ok-arg-7.ensures.shape k.local ∙ ap₂ with_rule six k.rule in
    let eight = c.in_ok-arg-8.ensures.shape f.local ∙ ap₂ with_rule seven f.rule in
    let nine = c.in_ok-arg-9.ensures.shape p.local ∙ ap₂ with_rule eight p.rule in
    IfOk-weaker c.arg-10.result _ _ (λ r adds. adds.shape w_file.local ∙ ap₂ with_rule nine w_file.rule) c.arg-10.ensures

pub returns-clause-local : goal.returns-clause-local
returns-clause-local c = λ no_0.
    let w = c.workers_option.ensures in
    let e = c.expansions_option.ensures in
    let n = c.room_option.ensures in
    let r = c.rows_option.ensures in
    let s = c.shards_option.ensures in
    let d = c.deadline_option.ensures in
    let k = c.kif_flag.ensures in
    let f = c.rest_flag.ensures in
    let p = c.progress_flag.ensures in
    let w_file = c.file_word.ensures in
    let no_1 = stays_local _ _ _ c.in_ok-arg.ensures.globals no_0 w.local in
    let no_2 = stays_local _ _ _ c.in_ok-arg-2.ensures.globals no_1 e.local in
    let no_3 = stays_local _ _ _ c.in_ok-arg-3.ensures.globals no_2 n.local in
    let no_4 = stays_local _ _ _ c.in_ok-arg-4.ensures.globals no_3 r.local in
    let no_5 = stays_local _ _ _ c.in_ok-arg-5.ensures.globals no_4 s.local in
    let no_6 = stays_local _ _ _ c.in_ok-arg-6.ensures.globals no_5 d.local in
    let no_7 = stays_local _ _ _ c.in_ok-arg-7.ensures.globals no_6 k.local in
    let no_8 = stays_local _ _ _ c.in_ok-arg-8.ensures.globals no_7 f.local in
    let no_9 = stays_local _ _ _ c.in_ok-arg-9.ensures.globals no_8 p.local in
    IfOk-weaker c.arg-10.result _ _ (λ r adds. stays_local _ _ _ adds.globals no_9 w_file.local) c.arg-10.ensures
