use Rattle.std.proofs.Common.{◌+◌, arith, length, map, subst, sym}
use Rattle.std.specs.Prelude.{List}
use Rattle.std.proofs.lemmas.Option.{slice_get_read}
use Rattle.board_core.specs.Order.{Lists}
use Rattle.shogi_rules.specs.Tsume.{IsCheck}
use Rattle.search_limits.specs.Settings.{settings_in}
use Rattle.visit_log.specs.Run.{WorkerView}
use Rattle.list_laws.proofs.Standing.{contained}
use Rattle.cook_report.specs.declared.report.Line.{Line}
use Rattle.cook_search.specs.Found.{IsReportFound}
use Rattle.cook_search.specs.Inside.{AreTold}
use Rattle.cook_search.proofs.Checks.{told_more, told_none, report_told}
use Rattle.cook_search.proofs.Polled.{all_polled, all_polled_again, stops_stay}
use Rattle.cook_search.proofs.reporting.lines.Goals as goal

pub returns-in_err-listed-clause-polled : goal.returns-in_err-listed-clause-polled
returns-in_err-listed-clause-polled g c = all_polled c.args.ground.now.settings.now.workers (map g.T.Stop.signal c.args.means.now.stops.items)

pub loop-place-init : goal.loop-place-init
loop-place-init g c =
    let p = c.args.ground.now.problem.now.position in
    let s = settings_in c.args.ground.now.settings.now in
    let told = map g.T.Stop.signal c.args.means.now.stops.items in
    let checks = c.as_slice-checks.result.now in (
      subst (λ (lines : List Line). AreTold p s told told checks 0 lines c.args.means.now.crews.items) (sym c.new-lines.ensures.items)
          (subst (λ (crews : List (List WorkerView)). AreTold p s told told checks 0 _ crews) (sym c.requires.fresh) (told_none p s told checks)),
      all_polled c.args.ground.now.settings.now.workers told,
    )

pub line_on-requires-clause-check : goal.line_on-requires-clause-check
line_on-requires-clause-check g c = λ κs within.
    let p = c.args.ground.now.problem.now.position in
    let checks = c.as_slice-checks.result.now in
    let at = slice_get_read checks (length checks) c.loop-place.place c.index-checks-place.result (omega arith) (omega (arith, c.loop-place-test.true)) c.index-checks-place.is in
    (subst (Lists (IsCheck p.side p)) (sym c.as_slice-checks.ensures.moves) c.in_ok-listed.ensures).sound c.index-checks-place.result
    (contained checks c.loop-place.place c.index-checks-place.result at)

pub line_on-requires-clause-stops : goal.line_on-requires-clause-stops
line_on-requires-clause-stops g c = λ κs within.
    stops_stay g.T.Stop.signal c.args.ground.now.settings.now.workers c.args.ground.now.settings.now.workers c.args.means.now.stops.items c.loop-place.means.stops.items
    c.loop-place.invariant.1 c.requires.stops

pub returns-in_err-line_on-clause-polled : goal.returns-in_err-line_on-clause-polled
returns-in_err-line_on-clause-polled g c =
    all_polled_again c.args.ground.now.settings.now.workers (map g.T.Stop.signal c.args.means.now.stops.items) (map g.T.Stop.signal c.loop-place.means.stops.items)
    (map g.T.Stop.signal c.line_on.new.means.stops.items) c.loop-place.invariant.1 c.line_on.ensures.polled

pub returns-in_err-push-clause-polled : goal.returns-in_err-push-clause-polled
returns-in_err-push-clause-polled g c =
    all_polled_again c.args.ground.now.settings.now.workers (map g.T.Stop.signal c.args.means.now.stops.items) (map g.T.Stop.signal c.loop-place.means.stops.items)
    (map g.T.Stop.signal c.line_on.new.means.stops.items) c.loop-place.invariant.1 c.line_on.ensures.polled

pub loop-place-preserved : goal.loop-place-preserved
loop-place-preserved g c =
    let p = c.args.ground.now.problem.now.position in
    let s = settings_in c.args.ground.now.settings.now in
    let told = map g.T.Stop.signal c.args.means.now.stops.items in
    let now = map g.T.Stop.signal c.loop-place.means.stops.items in
    let then = map g.T.Stop.signal c.line_on.new.means.stops.items in
    let checks = c.as_slice-checks.result.now in
    let at = slice_get_read checks (length checks) c.loop-place.place c.index-checks-place.result (omega arith) (omega (arith, c.loop-place-test.true)) c.index-checks-place.is in (
      subst (λ (lines : List Line). AreTold p s told then checks (c.loop-place.place + 1) lines c.line_on.new.means.crews.items) (sym c.in_ok-push.ensures.items)
          (told_more p s told now then checks c.loop-place.place c.loop-place.lines.items c.loop-place.means.crews.items c.line_on.new.means.crews.items
          c.index-checks-place.result c.in_ok-line_on.field-0 at c.loop-place.invariant.0 c.in_ok-line_on.ensures.found),
      all_polled_again c.args.ground.now.settings.now.workers told now then c.loop-place.invariant.1 c.line_on.ensures.polled,
    )

pub returns-clause-found : goal.returns-clause-found
returns-clause-found g c =
    let p = c.args.ground.now.problem.now.position in
    let s = settings_in c.args.ground.now.settings.now in
    let told = map g.T.Stop.signal c.args.means.now.stops.items in
    let now = map g.T.Stop.signal c.loop-place.means.stops.items in
    let checks = c.as_slice-checks.result.now in
    subst (λ (lines : List Line). IsReportFound p s told now lines c.loop-place.means.crews.items) (sym c.new.ensures)
    (report_told p s told now checks c.loop-place.place c.loop-place.lines.items c.loop-place.means.crews.items
    (subst (Lists (IsCheck p.side p)) (sym c.as_slice-checks.ensures.moves) c.in_ok-listed.ensures) (omega (arith, c.loop-place-test.false)) c.loop-place.invariant.0)
