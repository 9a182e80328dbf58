use Rattle.std.proofs.Common.{◌++◌, subst, sym, ◌∙◌}
use Rattle.std.proofs.lemmas.Bool.{false≢true}
use Rattle.cert_text.specs.Lines.{AreRead}
use Rattle.wide_read.proofs.Joining.{stopped_before}
use Rattle.wide_read.proofs.join.both.Goals as goal

pub returns : goal.returns
returns g c = λ problem before text whole lines part some.
    let form = g.E.Entry.form problem in
    subst (AreRead form (before ++ text) c.args.whole.entries.items c.args.whole.last.now) (sym c.stop_before_more.ensures)
    (stopped_before form before text c.args.whole.entries.items c.args.whole.last.now c.args.whole.stop
    (λ unended. false≢true (sym c.if-is_open.false ∙ c.is_open.ensures.1 unended)) some whole)
