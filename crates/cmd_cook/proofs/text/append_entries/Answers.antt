use Rattle.std.proofs.Common.{◌∙◌, ◌++◌, List, ap, arith, length, take_all}
use Rattle.std.proofs.lemmas.Option.{slice_get_read}
use Rattle.cert_text.specs.Text.{entries_text}
use Rattle.cmd_cook.proofs.Written.{written_one}
use Rattle.cmd_cook.proofs.text.append_entries.Goals as goal

pub loop-entry-preserved : goal.loop-entry-preserved
loop-entry-preserved g c =
    let form = g.E.Entry.form c.args.listed.now.problem in
    let entries = c.entries-entries.result.now in
    written_one form.text_of entries c.loop-entry.entry-index c.entry-item.result c.args.out.now.items c.loop-entry.out.items _
    (slice_get_read entries (length entries) c.loop-entry.entry-index c.entry-item.result (omega arith) (omega (arith, c.loop-entry-test.true)) c.entry-item.is)
    c.loop-entry.invariant (c.in_ok-append.ensures.text c.args.listed.now.problem)

pub returns : goal.returns
returns g c =
    let form = g.E.Entry.form c.args.listed.now.problem in
    c.loop-entry.invariant
    ∙ ap (λ (es : List g.row.E.Denot). c.args.out.now.items ++ entries_text form es)
    (take_all c.loop-entry.entry-index c.entries-entries.result.now (omega (arith, c.loop-entry-test.false)) ∙ c.entries-entries.ensures.entries)
