use Rattle.std.proofs.Common.{◌<◌, ◌+◌, ◌*◌, sym, subst, arith, inl, inr}
use Rattle.board_core.specs.declared.moves.Move.{Move}
use Rattle.board_core.specs.Order.{order_of}
use Rattle.list_laws.specs.Added.{GoesFrom}
use Rattle.move_lists.proofs.Adding.{board_more, added_none, added_all, goes_to_either}
use Rattle.move_lists.proofs.moves.Moves.add_board.Goals as goal

pub loop-to-init : goal.loop-to-init
loop-to-init c = (
  added_none (GoesFrom c.args.from c.args.plain c.args.promoted) c.or-left.result c.args.self.now
      (goes_to_either c.args.from c.args.plain c.args.promoted c.or-left.result c.or-left.ensures),
  (λ m t there is. let before = c.requires.later m there in omega (arith, before)),
)

pub add_if-requires-in-Some : goal.add_if-requires-in-Some
add_if-requires-in-Some c = record {
  later = λ m there. elim (c.in_ok-add_if.ensures.sound m there) [
    | inl before ↦ let early = c.loop-to.invariant.1 m c.in-Some.to.number before c.in-Some.ensures.found in omega (arith, early)
    | inr is ↦ subst (λ (x : Move). order_of x < 162 * c.args.from.number + 2 * c.in-Some.to.number + 1) (sym is.1) (omega arith)
  ];
}

pub loop-to-preserved : goal.loop-to-preserved
loop-to-preserved c =
    board_more c.value_laws.ensures.squares c.args.from c.in-Some.to c.args.plain c.args.promoted c.loop-to.left c.pop_first.new.self
    c.args.self.now c.loop-to.self c.add_if.new.self c.add_if-in-Some.new.self c.contains.result c.contains-in-Some.result
    c.contains.ensures c.contains-in-Some.ensures (c.in-Some.ensures.least, c.in-Some.ensures.rest)
    c.loop-to.invariant.0 c.loop-to.invariant.1 c.in_ok-add_if.ensures c.in_ok-add_if-2.ensures

pub returns-clause-added : goal.returns-clause-added
returns-clause-added c =
    added_all (GoesFrom c.args.from c.args.plain c.args.promoted) c.loop-to.left c.args.self.now c.loop-to.self c.in_default.ensures.none c.loop-to.invariant.0
