use Rattle.std.proofs.Common.{◌≡◌, ◌++◌}
use Rattle.cert_order.proofs.TextOrder.{AreTextsBelow}
use Rattle.cert_order.proofs.order.text_order.Given as goal

abbrev pub invariant-loop-place : goal.invariant-loop-place
invariant-loop-place l = AreTextsBelow l.positions l.place l.by_text

abbrev pub invariant-loop-place-2 : goal.invariant-loop-place-2
invariant-loop-place-2 l = l.order.items ++ l.place-iterator ≡ l.initial.place-iterator
