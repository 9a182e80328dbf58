use Rattle.std.proofs.Common.{◌≡◌, [], arith, length}
use Rattle.std.proofs.lemmas.Grind.{common_steps}
use Rattle.std.proofs.lemmas.Option.{slice_get_read}
use Rattle.std.proofs.lemmas.Map.Iter.{rest_all}
use Rattle.std.specs.Map.Iter.{deref}
use Rattle.cert_order.proofs.TextOrder.{none_yet, one_text_more, text_ordered}
use Rattle.cert_order.proofs.order.text_order.Goals as goal

pub loop-place-init : goal.loop-place-init
loop-place-init c = none_yet c.args.positions.now c.new-by_text.result c.new-by_text.ensures.empty

pub loop-place-preserved : goal.loop-place-preserved
loop-place-preserved c =
    one_text_more c.args.positions.now c.loop-place.place c.index-positions-place.result c.in_ok-write_sfen.field-0 c.loop-place.by_text c.insert.new.self
    c.in_ok-insert.field-0
    c.requires.apart c.requires.kept
    (slice_get_read c.args.positions.now (length c.args.positions.now) c.loop-place.place c.index-positions-place.result (omega arith) (omega arith) c.index-positions-place.is)
    c.in_ok-write_sfen.ensures.text c.in_ok-write_sfen.ensures.apart c.in_ok-insert.ensures.updates
    c.in_ok-insert.ensures.old c.in_ok-insert.ensures.len c.loop-place.invariant

pub returns : goal.returns
returns c =
    let none : c.loop-place-2.place-iterator ≡ [] = rest_all deref c.loop-place-2.place-iterator c.next.new.self c.next.result c.in-None.is c.next.ensures.steps in
    text_ordered c.args.positions.now c.loop-place.place c.loop-place.by_text c.loop-place-2.order.items (omega arith)
    (grind (arith, common_steps, c.loop-place-2.invariant, none))
    c.values-place-items.ensures.ordered c.loop-place.invariant
