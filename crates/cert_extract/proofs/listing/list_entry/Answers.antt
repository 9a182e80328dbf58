use Rattle.std.proofs.Common.{arith, refl, sym, subst}
use Rattle.mate_facts.specs.Entries.{positions_of}
use Rattle.position_places.specs.Places.{ArePlacesOf}
use Rattle.cert_extract.specs.Listing.{HasListed}
use Rattle.cert_extract.proofs.Mates.{within_entries, old_entry, new_entry, positions_set, entries_placed_new, entries_placed_old, pushed_listed, set_listed, stands_there}
use Rattle.cert_extract.proofs.listing.list_entry.Goals as goal

pub returns-then-place-len-clause-places : goal.returns-then-place-len-clause-places
returns-then-place-len-clause-places c =
    let entries = c.args.entries.now.items in
    entries_placed_new c.args.places.now c.add.new.self c.args.entry.now entries c.push.new.self.items c.in_ok-place.place c.requires.places
    c.in_ok-place.ensures.added (c.in_ok-place.ensures.place (positions_of entries) c.requires.places) (omega arith) c.in_ok-push.ensures.items

pub returns-then-place-len-clause-listed : goal.returns-then-place-len-clause-listed
returns-then-place-len-clause-listed c =
    let entries = c.args.entries.now.items in
    let at = c.in_ok-place.ensures.place (positions_of entries) c.requires.places in
    subst (HasListed entries c.args.entry.now) (sym c.in_ok-push.ensures.items)
    (pushed_listed entries c.args.entry.now (new_entry entries c.args.entry.now.at c.in_ok-place.place at (omega arith)))

pub index-requires : goal.index-requires
index-requires c =
    let entries = c.args.entries.now.items in
    let inside = within_entries entries c.args.entry.now.at c.in_ok-place.place (c.in_ok-place.ensures.place (positions_of entries) c.requires.places) (omega arith) in
    omega arith

pub index_mut-requires : goal.index_mut-requires
index_mut-requires c =
    let entries = c.args.entries.now.items in
    let inside = within_entries entries c.args.entry.now.at c.in_ok-place.place (c.in_ok-place.ensures.place (positions_of entries) c.requires.places) (omega arith) in
    omega arith

pub returns-then-entry-index-clause-places : goal.returns-then-entry-index-clause-places
returns-then-entry-index-clause-places c =
    let entries = c.args.entries.now.items in
    let at = c.in_ok-place.ensures.place (positions_of entries) c.requires.places in
    let old = old_entry entries c.args.entry.now.at c.in_ok-place.place c.index.result.now at (omega arith) c.index.ensures in
    subst (ArePlacesOf c.add.new.self) (sym (positions_set entries c.in_ok-place.place c.index.result.now c.args.entry.now old.0 old.1))
    (entries_placed_old c.args.places.now c.add.new.self c.args.entry.now entries c.in_ok-place.place c.requires.places c.in_ok-place.ensures.added at (omega arith))

pub returns-then-entry-index-clause-listed : goal.returns-then-entry-index-clause-listed
returns-then-entry-index-clause-listed c =
    let entries = c.args.entries.now.items in
    let at = c.in_ok-place.ensures.place (positions_of entries) c.requires.places in
    let old = old_entry entries c.args.entry.now.at c.in_ok-place.place c.index.result.now at (omega arith) c.index.ensures in
    set_listed entries c.in_ok-place.place c.index.result.now c.args.entry.now c.requires.places.apart old.0 old.1 (omega arith)

pub returns-clause-places : goal.returns-clause-places
returns-clause-places c =
    let entries = c.args.entries.now.items in
    entries_placed_old c.args.places.now c.add.new.self c.args.entry.now entries c.in_ok-place.place c.requires.places c.in_ok-place.ensures.added
    (c.in_ok-place.ensures.place (positions_of entries) c.requires.places) (omega arith)

pub returns-clause-listed : goal.returns-clause-listed
returns-clause-listed c =
    let entries = c.args.entries.now.items in
    let at = c.in_ok-place.ensures.place (positions_of entries) c.requires.places in
    let old = old_entry entries c.args.entry.now.at c.in_ok-place.place c.index.result.now at (omega arith) c.index.ensures in
    (stands_there entries c.in_ok-place.place c.index.result.now c.args.entry.now.at c.args.entry.now.rank.number old.0 old.1 (omega arith), refl)
