use Rattle.std.proofs.Common.{take}
use Rattle.cert_order.specs.Order.{ArePicked}
use Rattle.cert_order.proofs.certificate.items_at.Given as goal

abbrev pub invariant-loop-place : goal.invariant-loop-place
invariant-loop-place g l = ArePicked l.items (take l.place-index l.order) l.picked.items
