use Rattle.std.proofs.Common.{subst, sym, ◌∙◌}
use Rattle.std.proofs.lemmas.Bool.{false≢true}
use Rattle.wide_read.specs.Stretches.{IsSeam}
use Rattle.wide_read.proofs.Joining.{more_put, no_rise}
use Rattle.wide_read.proofs.join.followed.Goals as goal

pub returns-then-not-branch : goal.returns-then-not-branch
returns-then-not-branch g c = λ problem before text unended whole lines part.
    let form = g.E.Entry.form problem in
    no_rise form before text c.args.whole.entries.items c.args.part.entries.items c.args.whole.last.now c.args.part.last.now c.args.whole.stop c.args.part.stop unended whole lines part
    (λ seam. false≢true (sym c.if-not-branch.true ∙ (c.in_ok-rises.ensures problem).1 (subst (IsSeam form c.args.whole.last.now) (sym c.deref.ensures.value) seam)))

pub returns : goal.returns
returns g c = λ problem before text unended whole lines part.
    let form = g.E.Entry.form problem in
    let seam = subst (IsSeam form c.args.whole.last.now) c.deref.ensures.value ((c.in_ok-rises.ensures problem).0 c.if-not-branch.false) in
    more_put form before text c.args.whole.entries.items c.args.part.entries.items c.append.new.self.items c.deref-2.result.now c.args.whole.last.now c.args.part.last.now c.last_behind-last.result.now
    c.args.whole.stop c.args.part.stop unended whole lines part seam c.in_ok-append.ensures.items c.deref-2.ensures.value c.last_behind-last.ensures
