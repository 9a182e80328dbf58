use Rattle.std.proofs.Common.{◌<◌, List, ℕ, get_or, length, subst, arith}
use Rattle.std.proofs.lemmas.List.{take_all}
use Rattle.std.proofs.lemmas.List.Elements.{Contains-get_or}
use Rattle.cert_order.specs.Order.{ArePicked}
use Rattle.cert_order.proofs.Picked.{pick_more}
use Rattle.cert_order.proofs.certificate.items_at.Goals as goal

pub bounds-items-place : goal.bounds-items-place
bounds-items-place g c = c.requires _ (Contains-get_or c.args.order.now c.loop-place.place-index 0 c.loop-place-test.true)

pub offset_bounds-items-place : goal.offset_bounds-items-place
offset_bounds-items-place g c =
    let inside : get_or c.args.order.now c.loop-place.place-index 0 < length c.args.items.now =
    c.requires _ (Contains-get_or c.args.order.now c.loop-place.place-index 0 c.loop-place-test.true) in
    omega arith

pub loop-place-preserved : goal.loop-place-preserved
loop-place-preserved g c =
    pick_more c.args.items.now c.args.order.now c.loop-place.picked.items c.push.new.self.items c.loop-place.place-index c.index-items-place.result
    c.loop-place-test.true (c.requires _ (Contains-get_or c.args.order.now c.loop-place.place-index 0 c.loop-place-test.true)) c.index-items-place.is c.in_ok-push.ensures.items
    c.loop-place.invariant

pub returns : goal.returns
returns g c =
    subst (λ (os : List ℕ). ArePicked c.args.items.now os c.loop-place.picked.items)
    (take_all c.loop-place.place-index c.args.order.now c.loop-place-test.false) c.loop-place.invariant
