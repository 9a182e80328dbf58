use Rattle.std.proofs.Common.{◌∙◌, arith}
use Rattle.std.proofs.lemmas.List.{take_all}
use Rattle.pn_numbers.proofs.Totals.{at_won, at_lost, at_open}
use Rattle.pn_numbers.proofs.combining.combined.Goals as goal

pub returns-then-least-eq0 : goal.returns-then-least-eq0
returns-then-least-eq0 c =
    let whole = take_all c.loop-child.child-index c.args.children.now c.loop-child-test.false in
    let least = rw whole at c.loop-child.invariant.0 in
    c.numbers.ensures ∙ at_won c.args.node c.args.children.now (omega (arith, least))

pub returns-then-sum-eq0 : goal.returns-then-sum-eq0
returns-then-sum-eq0 c =
    let whole = take_all c.loop-child.child-index c.args.children.now c.loop-child-test.false in
    let least = rw whole at c.loop-child.invariant.0 in
    let sum = rw whole at c.loop-child.invariant.1 in
    c.numbers-then-sum-eq0.ensures ∙ at_lost c.args.node c.args.children.now (omega (arith, least)) (omega (arith, sum))

pub returns : goal.returns
returns c =
    let whole = take_all c.loop-child.child-index c.args.children.now c.loop-child-test.false in
    let least = rw whole at c.loop-child.invariant.0 in
    let sum = rw whole at c.loop-child.invariant.1 in
    c.numbers-2.ensures ∙ (rw (least, sum) (at_open c.args.node c.args.children.now (omega (arith, least)) (omega (arith, sum))))
