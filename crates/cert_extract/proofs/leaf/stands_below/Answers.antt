use Rattle.std.proofs.Common.{inl, inr, get_or, arith, ap}
use Rattle.std.proofs.lemmas.Bool.{cases_lt, leb-true, le-leb}
use Rattle.mate_facts.specs.declared.entry.MateEntry.{MateEntry}
use Rattle.mate_facts.specs.Entries.{positions_of}
use Rattle.cert_extract.proofs.Mates.{found_entry, rank_there, stands_there}
use Rattle.cert_extract.proofs.leaf.stands_below.Goals as goal

pub returns-in-Some-clause-below : goal.returns-in-Some-clause-below
returns-in-Some-clause-below c within =
    let entries = c.args.entries.now in
    let old = found_entry entries c.args.position.now c.in-Some.place c.index-entries-place.result (c.in-Some.ensures (positions_of entries) c.requires) c.index-entries-place.is in
    let low = leb-true _ _ within in
    let same = ap (λ (e : MateEntry). e.rank.number) c.index-entries-place.is in
    stands_there entries c.in-Some.place c.index-entries-place.result c.args.position.now c.args.rank old.0 old.1 (omega (arith, low, same))

pub returns-in-Some-clause-lower : goal.returns-in-Some-clause-lower
returns-in-Some-clause-lower c above =
    let entries = c.args.entries.now in
    let found = get_or entries c.in-Some.place c.index-entries-place.result in
    let old = found_entry entries c.args.position.now c.in-Some.place c.index-entries-place.result (c.in-Some.ensures (positions_of entries) c.requires) c.index-entries-place.is in
    let same = ap (λ (e : MateEntry). e.rank.number) c.index-entries-place.is in
    rank_there entries c.in-Some.place c.index-entries-place.result c.args.position.now c.args.rank c.requires.apart old.0 old.1
    (elim (cases_lt c.args.rank found.rank.number) [ inl less ↦ omega (arith, less, same) | inr low ↦ absurd (above (le-leb _ _ low)) ])
