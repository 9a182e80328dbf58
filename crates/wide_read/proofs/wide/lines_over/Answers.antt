use Rattle.std.proofs.Common.{◌≡◌, subst, sym}
use Rattle.wide_read.specs.Stretches.{IsCutInto}
use Rattle.wide_read.proofs.Cuts.{cut_read}
use Rattle.wide_read.proofs.wide.lines_over.Goals as goal

pub returns : goal.returns
returns g c =
    let form = g.E.Entry.form c.args.problem.now.position in
    let cut = subst (λ list. IsCutInto (λ stretch lines. lines ≡ stretch.now) list c.args.text.now) (sym c.deref.ensures.value) c.in_ok-texts.ensures in
    c.joined.ensures c.args.problem.now.position c.args.text.now
    (cut_read form (λ text. text.now) c.deref.result.now c.in_ok-parts.parts.items c.args.text.now cut c.in_ok-parts.ensures.all c.in_ok-parts.ensures.each)
