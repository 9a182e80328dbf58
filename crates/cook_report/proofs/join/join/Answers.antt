use Rattle.std.proofs.Common.{List, arith, sym, subst}
use Rattle.mate_facts.specs.Entries.{positions_of}
use Rattle.board_core.specs.Board.{Board}
use Rattle.position_places.specs.Places.{ArePlacesOf}
use Rattle.cook_report.proofs.Stepping.{new_at, old_within, old_entry, placed_new, placed_old, positions_set, joined_new, joined_met, joined_lower, too_many}
use Rattle.cook_report.proofs.join.join.Goals as goal

pub returns-then-place-limit-clause-too_many : goal.returns-then-place-limit-clause-too_many
returns-then-place-limit-clause-too_many c p seen joined =
    let place = c.in_ok-place.ensures.place (positions_of c.args.joined.now.entries.items) c.requires.placed in
    too_many p c.args.limit seen c.args.joined.now.entries.items c.args.entry.now joined
    (new_at c.args.joined.now.entries.items c.args.entry.now.at c.in_ok-place.place place (omega arith)) c.requires.placed.apart (omega arith)

pub index-requires : goal.index-requires
index-requires c =
    let place = c.in_ok-place.ensures.place (positions_of c.args.joined.now.entries.items) c.requires.placed in
    let inside = old_within c.args.joined.now.entries.items c.args.entry.now.at c.in_ok-place.place place (omega arith) in
    omega arith

pub index_mut-requires : goal.index_mut-requires
index_mut-requires c =
    let place = c.in_ok-place.ensures.place (positions_of c.args.joined.now.entries.items) c.requires.placed in
    let inside = old_within c.args.joined.now.entries.items c.args.entry.now.at c.in_ok-place.place place (omega arith) in
    omega arith

pub returns-in_ok-push-clause-placed : goal.returns-in_ok-push-clause-placed
returns-in_ok-push-clause-placed c =
    let place = c.in_ok-place.ensures.place (positions_of c.args.joined.now.entries.items) c.requires.placed in
    placed_new c.args.joined.now.places c.add.new.self c.args.joined.now.entries.items c.push.new.self.items c.args.entry.now c.in_ok-place.place c.requires.placed
    c.in_ok-place.ensures.added place (omega arith) c.in_ok-push.ensures.items

pub returns-in_ok-push-clause-joined : goal.returns-in_ok-push-clause-joined
returns-in_ok-push-clause-joined c p seen fits joined =
    let place = c.in_ok-place.ensures.place (positions_of c.args.joined.now.entries.items) c.requires.placed in
    joined_new p c.args.limit seen c.args.joined.now.entries.items c.args.entry.now joined
    (new_at c.args.joined.now.entries.items c.args.entry.now.at c.in_ok-place.place place (omega arith)) c.push.new.self.items c.in_ok-push.ensures.items (omega arith) fits

pub returns-then-entry-index-clause-placed : goal.returns-then-entry-index-clause-placed
returns-then-entry-index-clause-placed c =
    let place = c.in_ok-place.ensures.place (positions_of c.args.joined.now.entries.items) c.requires.placed in
    let old = old_entry c.args.joined.now.entries.items c.args.entry.now.at c.in_ok-place.place c.index.result.now place (omega arith) c.index.ensures in
    subst (λ (bs : List Board). ArePlacesOf c.add.new.self bs)
    (sym (positions_set c.args.joined.now.entries.items c.in_ok-place.place c.index.result.now c.args.entry.now old.0 old.1))
    (placed_old c.args.joined.now.places c.add.new.self c.args.joined.now.entries.items c.args.entry.now.at c.in_ok-place.place c.requires.placed
    c.in_ok-place.ensures.added place (omega arith))

pub returns-then-entry-index-clause-joined : goal.returns-then-entry-index-clause-joined
returns-then-entry-index-clause-joined c p seen fits joined =
    let place = c.in_ok-place.ensures.place (positions_of c.args.joined.now.entries.items) c.requires.placed in
    let old = old_entry c.args.joined.now.entries.items c.args.entry.now.at c.in_ok-place.place c.index.result.now place (omega arith) c.index.ensures in
    joined_lower p c.args.limit seen c.args.joined.now.entries.items c.args.entry.now joined c.requires.placed.apart c.in_ok-place.place c.index.result.now
    old.0 old.1 (omega arith) fits

pub returns-else-entry-index-clause-placed : goal.returns-else-entry-index-clause-placed
returns-else-entry-index-clause-placed c =
    let place = c.in_ok-place.ensures.place (positions_of c.args.joined.now.entries.items) c.requires.placed in
    placed_old c.args.joined.now.places c.add.new.self c.args.joined.now.entries.items c.args.entry.now.at c.in_ok-place.place c.requires.placed
    c.in_ok-place.ensures.added place (omega arith)

pub returns-else-entry-index-clause-joined : goal.returns-else-entry-index-clause-joined
returns-else-entry-index-clause-joined c p seen fits joined =
    let place = c.in_ok-place.ensures.place (positions_of c.args.joined.now.entries.items) c.requires.placed in
    let old = old_entry c.args.joined.now.entries.items c.args.entry.now.at c.in_ok-place.place c.index.result.now place (omega arith) c.index.ensures in
    joined_met p c.args.limit seen c.args.joined.now.entries.items c.args.entry.now joined c.requires.placed.apart c.in_ok-place.place c.index.result.now
    old.0 old.1 (omega arith) fits
