use Rattle.std.proofs.Common.{◌∙◌, ◌++◌, List, ap, arith, length, take_all}
use Rattle.std.specs.List.{flat_map}
use Rattle.std.proofs.lemmas.Option.{slice_get_read}
use Rattle.cook_report.specs.declared.report.Line.{Line}
use Rattle.cmd_cook.specs.Text.{line_text}
use Rattle.cmd_cook.proofs.Written.{written_one}
use Rattle.cmd_cook.proofs.text.append_lines.Goals as goal

pub loop-told-preserved : goal.loop-told-preserved
loop-told-preserved c =
    let lines = c.args.lines.now in
    written_one line_text lines c.loop-told.told-index c.told-item.result c.args.out.now.items c.loop-told.out.items _
    (slice_get_read lines (length lines) c.loop-told.told-index c.told-item.result (omega arith) (omega (arith, c.loop-told-test.true)) c.told-item.is)
    c.loop-told.invariant c.in_ok-append_line.ensures

pub returns : goal.returns
returns c =
    c.loop-told.invariant
    ∙ ap (λ (ls : List Line). c.args.out.now.items ++ flat_map line_text ls)
    (take_all c.loop-told.told-index c.args.lines.now (omega (arith, c.loop-told-test.false)))
