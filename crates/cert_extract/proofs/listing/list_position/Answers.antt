use Rattle.std.proofs.Common.{arith, refl}
use Rattle.list_laws.proofs.Standing.{contained}
use Rattle.cert_extract.proofs.Escapes.{is_new, is_old, placed_new}
use Rattle.cert_extract.proofs.listing.list_position.Goals as goal

pub returns-then-place-len-clause-listed : goal.returns-then-place-len-clause-listed
returns-then-place-len-clause-listed c =
    let positions = c.args.positions.now.items in
    let at = is_old positions c.args.position.now c.in_ok-place.place (c.in_ok-place.ensures.place positions c.requires.places) (omega arith) in
    (contained positions c.in_ok-place.place c.args.position.now at, refl)

pub returns-then-most-place-clause-too_many : goal.returns-then-most-place-clause-too_many
returns-then-most-place-clause-too_many c =
    let positions = c.args.positions.now.items in
    let b = c.args.position.now in
    let at = c.in_ok-place.ensures.place positions c.requires.places in
    record {
      full = omega arith;
      new = is_new positions b c.in_ok-place.place at (omega arith);
      apart = (placed_new c.args.places.now c.add.new.self b b positions _ c.in_ok-place.place c.requires.places c.in_ok-place.ensures.added at (omega arith) refl refl).apart;
    }

pub returns-clause-places : goal.returns-clause-places
returns-clause-places c =
    let positions = c.args.positions.now.items in
    let b = c.args.position.now in
    placed_new c.args.places.now c.add.new.self b b positions c.push.new.self.items c.in_ok-place.place c.requires.places c.in_ok-place.ensures.added
    (c.in_ok-place.ensures.place positions c.requires.places) (omega arith) refl c.in_ok-push.ensures.items

pub returns-clause-listed : goal.returns-clause-listed
returns-clause-listed c =
    let positions = c.args.positions.now.items in
    (is_new positions c.args.position.now c.in_ok-place.place (c.in_ok-place.ensures.place positions c.requires.places) (omega arith), c.in_ok-push.ensures.items)
