use Rattle.std.proofs.Common.{◌≡◌, ◌*◌, length, map, arith, refl}
use Rattle.std.proofs.lemmas.Option.{slice_get_read}
use Rattle.search_limits.specs.Settings.{settings_in}
use Rattle.cook_search.proofs.Offered.{all_polled, all_polled_again, stops_stay}
use Rattle.cook_along.proofs.Stages.{along_all, along_more, along_none, turn_within, turns_of}
use Rattle.cook_along.proofs.Turning.{checks_own, first_turn}
use Rattle.cook_along.proofs.along.reports_along.Goals as goal

pub loop-turn-init : goal.loop-turn-init
loop-turn-init g c =
    let p = c.args.ground.now.problem.now.position in
    let told = map g.T.Stop.signal c.args.stops.now.items in (
      along_none p c.args.moves.now (settings_in c.args.ground.now.settings.now) told c.new-stages.result.items c.new-crews.result.items
          (first_turn p c.args.moves.now c.requires.line) c.new-stages.ensures.items c.new-crews.ensures.items,
      all_polled c.args.ground.now.settings.now.workers told,
    )

pub stage_on-requires-clause-check : goal.stage_on-requires-clause-check
stage_on-requires-clause-check g c = λ κs within.
    let p = c.args.ground.now.problem.now.position in
    let moves = c.args.moves.now in
    let turn = c.loop-turn.turn in
    let inside = turn_within (length moves) turn c.div_ceil-turn-end.result c.div_ceil-turn-end.ensures (omega (arith, c.loop-turn-test.true)) in
    let there = slice_get_read moves (length moves) (2 * turn) c.index-moves-turn.result refl inside c.index-moves-turn.is in
    checks_own p moves turn c.at_turn-problem.result.position (c.at_turn-problem.ensures p c.loop-turn.invariant.0.at) c.index-moves-turn.result there

pub stage_on-requires-clause-stops : goal.stage_on-requires-clause-stops
stage_on-requires-clause-stops g c = λ κs within.
    stops_stay g.T.Stop.signal c.args.ground.now.settings.now.workers c.args.ground.now.settings.now.workers c.args.stops.now.items c.loop-turn.stops.items
    c.loop-turn.invariant.1 c.requires.stops

pub returns-in_err-stage_on-clause-polled : goal.returns-in_err-stage_on-clause-polled
returns-in_err-stage_on-clause-polled g c =
    all_polled_again c.args.ground.now.settings.now.workers (map g.T.Stop.signal c.args.stops.now.items) (map g.T.Stop.signal c.loop-turn.stops.items)
    (map g.T.Stop.signal c.stage_on.new.stops.items) c.loop-turn.invariant.1 c.stage_on.ensures.polled

pub returns-in_err-push-clause-polled : goal.returns-in_err-push-clause-polled
returns-in_err-push-clause-polled g c =
    all_polled_again c.args.ground.now.settings.now.workers (map g.T.Stop.signal c.args.stops.now.items) (map g.T.Stop.signal c.loop-turn.stops.items)
    (map g.T.Stop.signal c.stage_on.new.stops.items) c.loop-turn.invariant.1 c.stage_on.ensures.polled

pub loop-turn-preserved : goal.loop-turn-preserved
loop-turn-preserved g c =
    let p = c.args.ground.now.problem.now.position in
    let s = settings_in c.args.ground.now.settings.now in
    let told = map g.T.Stop.signal c.args.stops.now.items in
    let now = map g.T.Stop.signal c.loop-turn.stops.items in
    let then = map g.T.Stop.signal c.stage_on.new.stops.items in
    let moves = c.args.moves.now in
    let turn = c.loop-turn.turn in
    let inside = turn_within (length moves) turn c.div_ceil-turn-end.result c.div_ceil-turn-end.ensures (omega (arith, c.loop-turn-test.true)) in
    let there = slice_get_read moves (length moves) (2 * turn) c.index-moves-turn.result refl inside c.index-moves-turn.is in (
      along_more p moves s told now then turn c.loop-turn.problem.position c.at_turn-problem.result.position c.loop-turn.stages.items c.push.new.self.items
          c.loop-turn.crews.items c.stage_on.new.crews.items c.index-moves-turn.result c.in_ok-stage_on.field-0 c.loop-turn.invariant.0
          (c.at_turn-problem.ensures p c.loop-turn.invariant.0.at) there c.in_ok-stage_on.ensures.found c.in_ok-push.ensures.items,
      all_polled_again c.args.ground.now.settings.now.workers told now then c.loop-turn.invariant.1 c.stage_on.ensures.polled,
    )

pub returns-clause-stages : goal.returns-clause-stages
returns-clause-stages g c =
    let moves = c.args.moves.now in
    let all : c.loop-turn.turn ≡ c.div_ceil-turn-end.result = omega (arith, c.loop-turn-test.false, c.loop-turn.auto.turn-end) in
    along_all c.args.ground.now.problem.now.position moves (settings_in c.args.ground.now.settings.now) (map g.T.Stop.signal c.args.stops.now.items)
    (map g.T.Stop.signal c.loop-turn.stops.items) c.loop-turn.turn c.loop-turn.problem.position c.loop-turn.stages.items c.loop-turn.crews.items
    (turns_of (length moves) c.loop-turn.turn c.div_ceil-turn-end.result c.div_ceil-turn-end.ensures all) c.loop-turn.invariant.0
