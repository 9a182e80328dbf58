use Rattle.shortest_lists.proofs.Putting.{placed_old, placed_new, is_new}
use Rattle.std.proofs.Common.{arith}
use Rattle.shortest_lists.proofs.placing.takes_place.Goals as goal

pub returns-then-branch-count-clause-placed : goal.returns-then-branch-count-clause-placed
returns-then-branch-count-clause-placed c positions known many =
    placed_old c.args.places.now c.add.new.self c.args.position.now positions c.in_ok-add.field-0 c.args.count c.in_ok-add.ensures.added known
    (c.in_ok-add.ensures.place positions known) many c.if-branch-count.true

pub returns-then-count-most-clause-no_place : goal.returns-then-count-most-clause-no_place
returns-then-count-most-clause-no_place c positions known many =
    (is_new positions c.args.position.now c.in_ok-add.field-0 (c.in_ok-add.ensures.place positions known) (omega arith), omega arith)

pub returns-clause-placed : goal.returns-clause-placed
returns-clause-placed c positions known many =
    placed_new c.args.places.now c.add.new.self c.args.position.now positions c.in_ok-add.field-0 c.args.count c.args.most c.in_ok-add.ensures.added known
    (c.in_ok-add.ensures.place positions known) many (omega arith) (omega arith)
