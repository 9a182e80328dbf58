use Rattle.std.proofs.Common.{inl, arith}
use Rattle.std.proofs.lemmas.Result.{IfOk-weaker}
use Rattle.shogi_rules.specs.Rules.{after}
use Rattle.mate_facts.specs.Entries.{positions_of}
use Rattle.dominance_places.specs.Covering.{version_of}
use Rattle.cert_check.proofs.Covered.{for_rank, found_within, listed_at, listed_within, stands_lower}
use Rattle.cert_check.proofs.reached.covered_after.Goals as goal

pub offset_bounds-entries-place : goal.offset_bounds-entries-place
offset_bounds-entries-place c =
    let next = after c.args.before.now c.args.by in
    let within = listed_within c.args.entries.now next c.find_key.result c.in-Some.place c.in-Some.is
    (c.find_key.ensures (positions_of c.args.entries.now) next c.requires.places c.key_after.ensures.kept c.key_after.ensures.key) in
    omega (arith, within)

pub bounds-entries-place : goal.bounds-entries-place
bounds-entries-place c =
    let next = after c.args.before.now c.args.by in
    listed_within c.args.entries.now next c.find_key.result c.in-Some.place c.in-Some.is
    (c.find_key.ensures (positions_of c.args.entries.now) next c.requires.places c.key_after.ensures.kept c.key_after.ensures.key)

pub bounds-entries-place-in-Some : goal.bounds-entries-place-in-Some
bounds-entries-place-in-Some c = λ _.
    let next = after c.args.before.now c.args.by in
    listed_within c.args.entries.now next c.find_key.result c.in-Some.place c.in-Some.is
    (c.find_key.ensures (positions_of c.args.entries.now) next c.requires.places c.key_after.ensures.kept c.key_after.ensures.key)

pub returns-then-entries-place-clause-found : goal.returns-then-entries-place-clause-found
returns-then-entries-place-clause-found c =
    let next = after c.args.before.now c.args.by in
    inl (stands_lower c.listing_laws.ensures.covers (version_of c.args.places.now) c.args.entries.now c.args.attacker c.args.rank next c.in-Some.place
    c.index-entries-place.result
    (listed_at c.args.entries.now next c.find_key.result c.in-Some.place c.in-Some.is
    (c.find_key.ensures (positions_of c.args.entries.now) next c.requires.places c.key_after.ensures.kept c.key_after.ensures.key))
    c.if-entries-place.true)

pub returns-then-entries-place-clause-within : goal.returns-then-entries-place-clause-within
returns-then-entries-place-clause-within c =
    let next = after c.args.before.now c.args.by in
    listed_within c.args.entries.now next c.find_key.result c.in-Some.place c.in-Some.is
    (c.find_key.ensures (positions_of c.args.entries.now) next c.requires.places c.key_after.ensures.kept c.key_after.ensures.key)

pub returns-clause-found : goal.returns-clause-found
returns-clause-found c =
    IfOk-weaker c.least_covered.result _ _
    (λ found. for_rank (version_of c.args.places.now) c.args.entries.now c.args.attacker c.args.rank c.apply.result (after c.args.before.now c.args.by) found
    c.apply.ensures.position)
    c.least_covered.ensures

pub returns-clause-within : goal.returns-clause-within
returns-clause-within c =
    IfOk-weaker c.least_covered.result _ _
    (λ found. found_within (version_of c.args.places.now) c.args.entries.now c.args.attacker c.apply.result found) c.least_covered.ensures
