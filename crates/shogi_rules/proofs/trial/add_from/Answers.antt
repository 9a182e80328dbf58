use Rattle.std.proofs.Common.{◌+◌, ◌*◌, arith}
use Rattle.list_laws.proofs.MoveLists.{at_order, lists_more, lists_same, lists_past}
use Rattle.shogi_rules.proofs.Listing.{wanted_from}
use Rattle.shogi_rules.proofs.trial.add_from.Goals.{then-is_wanted+in_ok-push, else-is_wanted}
use Rattle.shogi_rules.proofs.trial.add_from.Goals as goal

pub returns-then-not-owns : goal.returns-then-not-owns
returns-then-not-owns c = lists_past _ (162 * c.args.from.number) 162 _ c.requires.before
    (wanted_from c.order_laws.ensures.origins c.args.wanted c.args.problem.now.position.side c.args.position.now c.args.from.number c.args.from.on_board (λ own. let t = c.owns.ensures.1 own in cc))

pub loop-code-preserved : goal.loop-code-preserved
loop-code-preserved c = at_order _ (162 * c.args.from.number + c.loop-code.code + 1) _ _ (omega arith) (elim c.if-is_wanted.branch [
  | then-is_wanted+in_ok-push w ↦ rw (w.moves-is, w.in_ok-push.ensures.items)
      (lists_more c.order_laws.ensures.apart _ _ _ _ c.loop-code.invariant c.board_move-by.ensures (c.is_wanted.ensures.0 w.if-is_wanted.true))
  | else-is_wanted w ↦ rw w.moves-is
      (lists_same c.order_laws.ensures.apart _ _ _ _ c.loop-code.invariant c.board_move-by.ensures (λ h. let t = c.is_wanted.ensures.1 h in cc))
])
