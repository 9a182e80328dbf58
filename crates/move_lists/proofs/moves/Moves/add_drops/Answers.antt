use Rattle.std.proofs.Common.{arith}
use Rattle.list_laws.specs.Added.{IsDropOn}
use Rattle.move_lists.proofs.Adding.{after_first, drop_more, added_none, added_all, drops_on_set}
use Rattle.move_lists.proofs.moves.Moves.add_drops.Goals as goal

pub loop-to-init : goal.loop-to-init
loop-to-init c = (
  added_none (IsDropOn c.args.kind c.args.squares) c.args.squares c.args.self.now (drops_on_set c.args.kind c.args.squares),
  (λ m t there is. let before = c.requires.later m there in omega (arith, before)),
  (λ t is. is),
)

pub loop-to-preserved : goal.loop-to-preserved
loop-to-preserved c =
    let more = drop_more c.value_laws.ensures.squares c.args.kind c.in-Some.to c.args.squares c.loop-to.left c.pop_first.new.self
    c.args.self.now c.loop-to.self c.add_if.new.self
    (c.loop-to.invariant.2 c.in-Some.to.number c.in-Some.ensures.found) (c.in-Some.ensures.least, c.in-Some.ensures.rest)
    c.loop-to.invariant.0 c.loop-to.invariant.1 c.in_ok-add_if.ensures in (
      more.0,
      more.1,
      (λ t is. c.loop-to.invariant.2 t (after_first c.loop-to.left c.pop_first.new.self c.in-Some.to.number t (c.in-Some.ensures.least, c.in-Some.ensures.rest) is).0),
    )

pub returns-clause-added : goal.returns-clause-added
returns-clause-added c =
    added_all (IsDropOn c.args.kind c.args.squares) c.loop-to.left c.args.self.now c.loop-to.self c.in_default.ensures.none c.loop-to.invariant.0
