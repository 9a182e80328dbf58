use Rattle.std.proofs.Common.{length, refl}
use Rattle.std.proofs.lemmas.List.{take_all}
use Rattle.std.proofs.lemmas.Option.{slice_get_read}
use Rattle.cert_extract.specs.Listing.{IsEndInSet}
use Rattle.cert_extract.proofs.Grown.{ended, set_begun, set_end, set_grown, set_put}
use Rattle.cert_extract.proofs.leaf.list_set.Goals as goal

pub loop-position-init : goal.loop-position-init
loop-position-init c = set_begun c.args.set.now c.args.most c.args.positions.now.items c.args.places.now c.requires.places c.requires.few

pub loop-position-preserved : goal.loop-position-preserved
loop-position-preserved c =
    let set = c.args.set.now in
    let k = c.loop-position.position-index in
    let at = slice_get_read set (length set) k c.position-item.result refl c.loop-position-test.true c.position-item.is in
    set_grown set c.args.most c.args.positions.now.items k c.loop-position.places c.list_position.new.places c.loop-position.positions.items
    c.list_position.new.positions.items c.position-item.result at c.loop-position.invariant c.in_ok-list_position.field-0
    c.in_ok-list_position.ensures.places c.in_ok-list_position.ensures.few c.in_ok-list_position.ensures.listed

pub returns-in_err-list_position-clause-too_many : goal.returns-in_err-list_position-clause-too_many
returns-in_err-list_position-clause-too_many c =
    let set = c.args.set.now in
    let k = c.loop-position.position-index in
    let at = slice_get_read set (length set) k c.position-item.result refl c.loop-position-test.true c.position-item.is in
    ended (IsEndInSet c.args.most set c.args.positions.now.items) c.from_residual.result c.in_err-list_position.field-0.0 c.from_residual.ensures
    (set_end set c.args.most c.args.positions.now.items k c.loop-position.places c.loop-position.places c.loop-position.positions.items
    c.loop-position.positions.items c.position-item.result at c.loop-position.invariant c.in_err-list_position.field-0.0
    c.in_err-list_position.ensures.too_many)

pub returns-clause-put : goal.returns-clause-put
returns-clause-put c =
    let set = c.args.set.now in
    let k = c.loop-position.position-index in
    set_put set c.args.most c.args.positions.now.items k c.loop-position.places c.loop-position.positions.items (take_all k set c.loop-position-test.false)
    c.loop-position.invariant
