use Rattle.std.proofs.Common.{arith, subst, Contains}
use Rattle.bound_text.specs.Bound.{bounded_in}
use Rattle.shogi_rules.specs.Tsume.{IsEvasion}
use Rattle.shortest_lists.proofs.Putting.{item_at}
use Rattle.shortest_lists.proofs.bound.leads_back.Goals as goal

pub apply-requires-clause-legal : goal.apply-requires-clause-legal
apply-requires-clause-legal c =
    (item_at (IsEvasion c.args.problem.now.position.side c.args.checked.now) c.as_slice-evasion-items.result.now c.in_ok-evasions.evasions
    c.in_ok-evasions.ensures c.as_slice-evasion-items.ensures.moves c.loop-evasion.evasion-index c.evasion-item.result (omega arith) c.evasion-item.is).legal

pub returns-then-holds : goal.returns-then-holds
returns-then-holds c = λ _. record {
  evasion = c.evasion-item.result;
  is_evasion = item_at (IsEvasion c.args.problem.now.position.side c.args.checked.now) c.as_slice-evasion-items.result.now c.in_ok-evasions.evasions
      c.in_ok-evasions.ensures c.as_slice-evasion-items.ensures.moves c.loop-evasion.evasion-index c.evasion-item.result (omega arith) c.evasion-item.is;
  leads = subst (Contains (bounded_in c.args.walk.now.entries.items)) c.apply.ensures.position
      ((c.holds.ensures (bounded_in c.args.walk.now.entries.items) c.requires.placed).0 c.if-holds.true);
}
