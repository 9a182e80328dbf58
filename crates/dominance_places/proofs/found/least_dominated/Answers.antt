use Rattle.std.proofs.Common.{◌≤◌, ◌+◌, length, refl, sym, ◌∙◌, subst, true≢false, arith}
use Rattle.mate_facts.specs.Entries.{positions_of}
use Rattle.dominance_places.proofs.Listed.{on_items}
use Rattle.dominance_places.proofs.Among.{Among, entry_within, entry_here, more_same, more_better, none_below, best_below}
use Rattle.dominance_places.proofs.found.least_dominated.Goals as goal
use Rattle.dominance_places.proofs.found.least_dominated.Goals.{then-has_better_hands, else-has_better_hands}

pub offset_bounds-entries-place : goal.offset_bounds-entries-place
offset_bounds-entries-place c =
    let are = on_items (positions_of c.args.entries.now) c.args.position.now c.as_slice-place-items.result.now _ c.as_slice-place-items.ensures.value
    (c.in_ok-on_board.ensures (positions_of c.args.entries.now) c.requires) in
    let within = entry_within c.args.entries.now c.args.position.now c.as_slice-place-items.result.now c.loop-place.place-index are c.loop-place-test.true in
    omega (arith, within)

pub bounds-entries-place : goal.bounds-entries-place
bounds-entries-place c =
    let are = on_items (positions_of c.args.entries.now) c.args.position.now c.as_slice-place-items.result.now _ c.as_slice-place-items.ensures.value
    (c.in_ok-on_board.ensures (positions_of c.args.entries.now) c.requires) in
    entry_within c.args.entries.now c.args.position.now c.as_slice-place-items.result.now c.loop-place.place-index are c.loop-place-test.true

pub has_better_hands-requires-clause-cells : goal.has_better_hands-requires-clause-cells
has_better_hands-requires-clause-cells c =
    let are = on_items (positions_of c.args.entries.now) c.args.position.now c.as_slice-place-items.result.now _ c.as_slice-place-items.ensures.value
    (c.in_ok-on_board.ensures (positions_of c.args.entries.now) c.requires) in
    (entry_here c.args.entries.now c.args.position.now c.as_slice-place-items.result.now c.loop-place.place-index _ are c.loop-place-test.true
    c.index-entries-place.is).cells

pub has_better_hands-requires-clause-turn : goal.has_better_hands-requires-clause-turn
has_better_hands-requires-clause-turn c =
    let are = on_items (positions_of c.args.entries.now) c.args.position.now c.as_slice-place-items.result.now _ c.as_slice-place-items.ensures.value
    (c.in_ok-on_board.ensures (positions_of c.args.entries.now) c.requires) in
    (entry_here c.args.entries.now c.args.position.now c.as_slice-place-items.result.now c.loop-place.place-index _ are c.loop-place-test.true
    c.index-entries-place.is).turn

pub loop-place-preserved : goal.loop-place-preserved
loop-place-preserved c =
    let are = on_items (positions_of c.args.entries.now) c.args.position.now c.as_slice-place-items.result.now _ c.as_slice-place-items.ensures.value
    (c.in_ok-on_board.ensures (positions_of c.args.entries.now) c.requires) in
    let here = entry_here c.args.entries.now c.args.position.now c.as_slice-place-items.result.now c.loop-place.place-index _ are c.loop-place-test.true
    c.index-entries-place.is in
    elim c.if-has_better_hands.branch [
      | then-has_better_hands w ↦
          subst (Among c.args.attacker c.args.entries.now c.args.position.now c.as_slice-place-items.result.now (c.loop-place.place-index + 1)) (sym w.best-is)
          (more_better c.args.attacker c.args.entries.now c.args.position.now c.as_slice-place-items.result.now c.loop-place.place-index
          c.index-entries-place.result c.loop-place.best _ w.better.result c.loop-place-test.true are.rising here
          (c.has_better_hands.ensures.0 w.if-has_better_hands.true) refl refl c.loop-place.invariant w.better.ensures)
      | else-has_better_hands w ↦
          subst (Among c.args.attacker c.args.entries.now c.args.position.now c.as_slice-place-items.result.now (c.loop-place.place-index + 1)) (sym w.best-is)
          (more_same c.args.attacker c.args.entries.now c.args.position.now c.as_slice-place-items.result.now c.loop-place.place-index
          c.index-entries-place.result c.loop-place.best here
          (λ above. true≢false (sym (c.has_better_hands.ensures.1 above) ∙ w.if-has_better_hands.false)) c.loop-place.invariant)
    ]

pub returns-in-None : goal.returns-in-None
returns-in-None c =
    let are = on_items (positions_of c.args.entries.now) c.args.position.now c.as_slice-place-items.result.now _ c.as_slice-place-items.ensures.value
    (c.in_ok-on_board.ensures (positions_of c.args.entries.now) c.requires) in
    let all : length c.as_slice-place-items.result.now ≤ c.loop-place.place-index = let over = c.loop-place-test.false in omega (arith, over) in
    none_below c.args.attacker c.args.entries.now c.args.position.now c.as_slice-place-items.result.now c.loop-place.place-index are all
    (subst (Among c.args.attacker c.args.entries.now c.args.position.now c.as_slice-place-items.result.now c.loop-place.place-index) c.in-None.is
    c.loop-place.invariant)

pub returns-in-Some : goal.returns-in-Some
returns-in-Some c =
    let are = on_items (positions_of c.args.entries.now) c.args.position.now c.as_slice-place-items.result.now _ c.as_slice-place-items.ensures.value
    (c.in_ok-on_board.ensures (positions_of c.args.entries.now) c.requires) in
    let all : length c.as_slice-place-items.result.now ≤ c.loop-place.place-index = let over = c.loop-place-test.false in omega (arith, over) in
    best_below c.args.attacker c.args.entries.now c.args.position.now c.as_slice-place-items.result.now c.loop-place.place-index c.in-Some.best are all
    (subst (Among c.args.attacker c.args.entries.now c.args.position.now c.as_slice-place-items.result.now c.loop-place.place-index) c.in-Some.is
    c.loop-place.invariant)
