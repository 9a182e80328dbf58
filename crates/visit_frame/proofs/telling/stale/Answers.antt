use Rattle.std.proofs.Common.{get_or, set, sym, ap, ◌∙◌}
use Rattle.visit_log.specs.declared.parts.Child.{Child}
use Rattle.std.proofs.lemmas.List.Edits.{map_over_more}
use Rattle.visit_log.specs.declared.parts.Look.{Look}
use Rattle.visit_log.specs.Round.{staled}
use Rattle.visit_frame.proofs.telling.stale.Goals as goal

pub loop-child-preserved : goal.loop-child-preserved
loop-child-preserved c =
    let xs = c.args.children.now in
    let ys = c.loop-child.children in
    let i = c.loop-child.child-index in
    let one = c.child-item.result in
    let y : Child = get_or ys i one in
    ap (λ (look : Look). set ys i (record y { look = look })) c.staled_look-child.ensures
    ∙ (ap (λ (z : Child). set ys i (staled z)) (sym c.child-item.is) ∙ map_over_more staled xs ys i one c.loop-child-test.true c.loop-child.invariant c.child-item.is)
