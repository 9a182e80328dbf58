use Rattle.std.proofs.Common.{◌≤◌, length, refl, sym, ◌∙◌, true≢false, arith}
use Rattle.dominance_places.proofs.Listed.{on_items, position_within, position_here, bar_more, is_dominated_here, all_bar}
use Rattle.dominance_places.proofs.found.is_dominated.Goals as goal

pub offset_bounds-positions-place : goal.offset_bounds-positions-place
offset_bounds-positions-place c =
    let are = on_items c.args.positions.now c.args.position.now c.as_slice-place-items.result.now _ c.as_slice-place-items.ensures.value
    (c.in_ok-on_board.ensures c.args.positions.now c.requires) in
    let within = position_within c.args.positions.now c.args.position.now c.as_slice-place-items.result.now c.loop-place.place-index are c.loop-place-test.true in
    omega (arith, within)

pub bounds-positions-place : goal.bounds-positions-place
bounds-positions-place c =
    let are = on_items c.args.positions.now c.args.position.now c.as_slice-place-items.result.now _ c.as_slice-place-items.ensures.value
    (c.in_ok-on_board.ensures c.args.positions.now c.requires) in
    position_within c.args.positions.now c.args.position.now c.as_slice-place-items.result.now c.loop-place.place-index are c.loop-place-test.true

pub has_better_hands-requires-clause-cells : goal.has_better_hands-requires-clause-cells
has_better_hands-requires-clause-cells c =
    let are = on_items c.args.positions.now c.args.position.now c.as_slice-place-items.result.now _ c.as_slice-place-items.ensures.value
    (c.in_ok-on_board.ensures c.args.positions.now c.requires) in
    (position_here c.args.positions.now c.args.position.now c.as_slice-place-items.result.now c.loop-place.place-index _ are c.loop-place-test.true
    c.index-positions-place.is).cells

pub has_better_hands-requires-clause-turn : goal.has_better_hands-requires-clause-turn
has_better_hands-requires-clause-turn c =
    let are = on_items c.args.positions.now c.args.position.now c.as_slice-place-items.result.now _ c.as_slice-place-items.ensures.value
    (c.in_ok-on_board.ensures c.args.positions.now c.requires) in
    (position_here c.args.positions.now c.args.position.now c.as_slice-place-items.result.now c.loop-place.place-index _ are c.loop-place-test.true
    c.index-positions-place.is).turn

pub returns-then-has_better_hands : goal.returns-then-has_better_hands
returns-then-has_better_hands c =
    let are = on_items c.args.positions.now c.args.position.now c.as_slice-place-items.result.now _ c.as_slice-place-items.ensures.value
    (c.in_ok-on_board.ensures c.args.positions.now c.requires) in
    let here = position_here c.args.positions.now c.args.position.now c.as_slice-place-items.result.now c.loop-place.place-index _ are c.loop-place-test.true
    c.index-positions-place.is in (
      λ yes. is_dominated_here c.args.attacker c.args.positions.now c.args.position.now _ _ here (c.has_better_hands.ensures.0 c.if-has_better_hands.true),
      λ is. refl,
    )

pub loop-place-preserved : goal.loop-place-preserved
loop-place-preserved c =
    let are = on_items c.args.positions.now c.args.position.now c.as_slice-place-items.result.now _ c.as_slice-place-items.ensures.value
    (c.in_ok-on_board.ensures c.args.positions.now c.requires) in
    let here = position_here c.args.positions.now c.args.position.now c.as_slice-place-items.result.now c.loop-place.place-index _ are c.loop-place-test.true
    c.index-positions-place.is in
    bar_more c.args.attacker c.args.positions.now c.args.position.now c.as_slice-place-items.result.now c.loop-place.place-index _ here
    (λ below. true≢false (sym (c.has_better_hands.ensures.1 below) ∙ c.if-has_better_hands.false)) c.loop-place.invariant

pub returns : goal.returns
returns c =
    let are = on_items c.args.positions.now c.args.position.now c.as_slice-place-items.result.now _ c.as_slice-place-items.ensures.value
    (c.in_ok-on_board.ensures c.args.positions.now c.requires) in
    let all : length c.as_slice-place-items.result.now ≤ c.loop-place.place-index = let over = c.loop-place-test.false in omega (arith, over) in (
      λ no. absurd (true≢false (sym no)),
      λ is. absurd (all_bar c.args.attacker c.args.positions.now c.args.position.now c.as_slice-place-items.result.now c.loop-place.place-index are all
          c.loop-place.invariant is),
    )
