use Rattle.std.proofs.Common.{◌∙◌, rules, arith, length, map, subst, sym}
use Rattle.std.proofs.lemmas.Option.{slice_get_read}
use Rattle.std.specs.Prelude.{List}
use Rattle.board_core.specs.declared.moves.Move.{Move}
use Rattle.cert_text.specs.Certificate.{Mating}
use Rattle.search_limits.specs.Settings.{settings_in}
use Rattle.list_laws.proofs.Standing.{contained}
use Rattle.cook_search.specs.Inside.{AreShown, IsWalked}
use Rattle.cook_search.specs.declared.deciding.Finding.TheVariants as found
use Rattle.cook_search.proofs.Polled.{all_polled, all_polled_again, stops_stay}
use Rattle.cook_search.proofs.Walking.{all_shown, as_none, as_some, found_here, line_escape, lists_here, none_is, told_result, walked_mate, walked_none, walked_open}
use Rattle.cook_search.proofs.lines.line_on.Goals as goal
use Rattle.cook_search.proofs.lines.line_on.Goals.{in-Mate+in_ok-push-in-Mate, in-Open}

pub returns-in_err-evasions-clause-polled : goal.returns-in_err-evasions-clause-polled
returns-in_err-evasions-clause-polled g c = all_polled c.args.ground.now.settings.now.workers (map g.T.Stop.signal c.args.means.now.stops.items)

pub loop-evasion-init : goal.loop-evasion-init
loop-evasion-init g c =
    let p = c.args.ground.now.problem.now.position in
    let told = map g.T.Stop.signal c.args.means.now.stops.items in (
      subst (λ (mates : List Mating). IsWalked p (settings_in c.args.ground.now.settings.now) told told c.args.means.now.crews.items c.args.means.now.crews.items
          c.args.check c.as_slice-evasion-items.result.now 0 mates _) (sym c.new-mates.ensures.items)
          (walked_none p (settings_in c.args.ground.now.settings.now) told c.args.means.now.crews.items c.args.check c.as_slice-evasion-items.result.now),
      all_polled c.args.ground.now.settings.now.workers told,
    )

pub behind-position-requires-clause-evasion : goal.behind-position-requires-clause-evasion
behind-position-requires-clause-evasion g c =
    let items = c.as_slice-evasion-items.result.now in
    let at = slice_get_read items (length items) c.loop-evasion.evasion-index c.evasion-item.result (omega arith) (omega (arith, c.loop-evasion-test.true)) c.evasion-item.is in
    (
    lists_here c.args.ground.now.problem.now.position c.apply.result c.args.check items c.in_ok-evasions.evasions c.apply.ensures.position
    c.as_slice-evasion-items.ensures.moves c.in_ok-evasions.ensures
    ).sound c.evasion-item.result (contained items c.loop-evasion.evasion-index c.evasion-item.result at)

pub decide-requires-clause-stops : goal.decide-requires-clause-stops
decide-requires-clause-stops g c = λ κs within.
    stops_stay g.T.Stop.signal c.args.ground.now.settings.now.workers c.args.ground.now.settings.now.workers c.args.means.now.stops.items c.loop-evasion.means.stops.items
    c.loop-evasion.invariant.1 c.requires.stops

pub returns-in_err-certificate-clause-polled : goal.returns-in_err-certificate-clause-polled
returns-in_err-certificate-clause-polled g c =
    all_polled_again c.args.ground.now.settings.now.workers (map g.T.Stop.signal c.args.means.now.stops.items) (map g.T.Stop.signal c.loop-evasion.means.stops.items)
    (map g.T.Stop.signal c.decide.new.means.stops.items) c.loop-evasion.invariant.1 c.decide.ensures.polled

pub returns-in_err-push-in-Mate-clause-polled : goal.returns-in_err-push-in-Mate-clause-polled
returns-in_err-push-in-Mate-clause-polled g c =
    all_polled_again c.args.ground.now.settings.now.workers (map g.T.Stop.signal c.args.means.now.stops.items) (map g.T.Stop.signal c.loop-evasion.means.stops.items)
    (map g.T.Stop.signal c.decide.new.means.stops.items) c.loop-evasion.invariant.1 c.decide.ensures.polled

pub returns-in-Escape-clause-found : goal.returns-in-Escape-clause-found
returns-in-Escape-clause-found g c =
    let p = c.args.ground.now.problem.now.position in
    let s = settings_in c.args.ground.now.settings.now in
    let told = map g.T.Stop.signal c.args.means.now.stops.items in
    let now = map g.T.Stop.signal c.loop-evasion.means.stops.items in
    let then = map g.T.Stop.signal c.decide.new.means.stops.items in
    let items = c.as_slice-evasion-items.result.now in
    let evasion = c.evasion-item.result in
    let at = slice_get_read items (length items) c.loop-evasion.evasion-index evasion (omega arith) (omega (arith, c.loop-evasion-test.true)) c.evasion-item.is in
    let lists = lists_here p c.apply.result c.args.check items c.in_ok-evasions.evasions c.apply.ensures.position c.as_slice-evasion-items.ensures.moves c.in_ok-evasions.ensures in
    line_escape c.order_laws.ensures.places c.report_laws.ensures.kept p s told now then c.args.means.now.crews.items c.loop-evasion.means.crews.items c.decide.new.means.crews.items c.args.check evasion items
    c.loop-evasion.evasion-index c.loop-evasion.mates.items c.loop-evasion.opened c.in-Escape.certificate c.requires.check
    lists at c.loop-evasion.invariant.0
    (found_here p c.behind-position.result.position s now then c.loop-evasion.means.crews.items c.decide.new.means.crews.items c.args.check evasion c.in_ok-certificate.field-0
    (found.Escape c.in-Escape.certificate) c.behind-position.ensures c.in-Escape.is c.in_ok-certificate.ensures.decided)

pub returns-in-Escape-clause-polled : goal.returns-in-Escape-clause-polled
returns-in-Escape-clause-polled g c =
    all_polled_again c.args.ground.now.settings.now.workers (map g.T.Stop.signal c.args.means.now.stops.items) (map g.T.Stop.signal c.loop-evasion.means.stops.items)
    (map g.T.Stop.signal c.decide.new.means.stops.items) c.loop-evasion.invariant.1 c.decide.ensures.polled

pub loop-evasion-preserved : goal.loop-evasion-preserved
loop-evasion-preserved g c =
    let p = c.args.ground.now.problem.now.position in
    let s = settings_in c.args.ground.now.settings.now in
    let told = map g.T.Stop.signal c.args.means.now.stops.items in
    let now = map g.T.Stop.signal c.loop-evasion.means.stops.items in
    let then = map g.T.Stop.signal c.decide.new.means.stops.items in
    let items = c.as_slice-evasion-items.result.now in
    let evasion = c.evasion-item.result in
    let index = c.loop-evasion.evasion-index in
    let crews = c.args.means.now.crews.items in
    let crews_now = c.loop-evasion.means.crews.items in
    let crews_then = c.decide.new.means.crews.items in
    let at = slice_get_read items (length items) index evasion (omega arith) (omega (arith, c.loop-evasion-test.true)) c.evasion-item.is in
    let lists = lists_here p c.apply.result c.args.check items c.in_ok-evasions.evasions c.apply.ensures.position c.as_slice-evasion-items.ensures.moves c.in_ok-evasions.ensures in
    let is_evasion = lists.sound evasion (contained items index evasion at) in
    let here = found_here p c.behind-position.result.position s now then crews_now crews_then c.args.check evasion c.in_ok-certificate.field-0 in (
      elim c.match-branch-3.branch [
        | in-Mate+in_ok-push-in-Mate w ↦
            let walked = walked_mate c.valid_is_accepted.ensures.readable p s told now then crews crews_now crews_then c.args.check evasion items index c.loop-evasion.mates.items c.loop-evasion.opened w.in-Mate.certificate
            c.requires.check is_evasion at c.loop-evasion.invariant.0 (here (found.Mate w.in-Mate.certificate) c.behind-position.ensures w.in-Mate.is c.in_ok-certificate.ensures.decided) in
            search rules
        | in-Open w ↦
            let walked = walked_open p s told now then crews crews_now crews_then c.args.check evasion items index c.loop-evasion.mates.items c.loop-evasion.opened
            w.first_open-opened.result w.in-Open.cause c.requires.check is_evasion at c.loop-evasion.invariant.0
            (here (found.Open w.in-Open.cause) c.behind-position.ensures w.in-Open.is c.in_ok-certificate.ensures.decided)
            (as_some c.loop-evasion.opened w.first_open-opened.result w.first_open-opened.ensures.kept)
            (as_none c.loop-evasion.opened w.first_open-opened.ensures.new) in
            search rules
      ],
      all_polled_again c.args.ground.now.settings.now.workers told now then c.loop-evasion.invariant.1 c.decide.ensures.polled,
    )

pub told-requires : goal.told-requires
told-requires g c = record {
  shown = λ none.
      let p = c.args.ground.now.problem.now.position in
      let s = settings_in c.args.ground.now.settings.now in
      let told = map g.T.Stop.signal c.args.means.now.stops.items in
      let now = map g.T.Stop.signal c.loop-evasion.means.stops.items in
      let items = c.as_slice-evasion-items.result.now in
      let lists = lists_here p c.apply.result c.args.check items c.in_ok-evasions.evasions c.apply.ensures.position c.as_slice-evasion-items.ensures.moves c.in_ok-evasions.ensures in
      let walked = subst (IsWalked p s told now c.args.means.now.crews.items c.loop-evasion.means.crews.items c.args.check items c.loop-evasion.evasion-index c.loop-evasion.mates.items)
      (none_is c.loop-evasion.opened none) c.loop-evasion.invariant.0 in
      let shown = all_shown p s told now c.args.means.now.crews.items c.loop-evasion.means.crews.items c.args.check items c.loop-evasion.evasion-index c.loop-evasion.mates.items
      lists (omega (arith, c.loop-evasion-test.false)) walked in (
        walked.searches,
        subst (λ (ms : List Mating). AreShown p walked.searches c.args.check c.as_slice.result.now ms) (sym c.deref.ensures.value)
            (subst (λ (es : List Move). AreShown p walked.searches c.args.check es c.loop-evasion.mates.items) (c.as_slice-evasion-items.ensures.moves ∙ sym c.as_slice.ensures.moves) shown),
      );
}

pub returns-clause-found : goal.returns-clause-found
returns-clause-found g c =
    let p = c.args.ground.now.problem.now.position in
    let s = settings_in c.args.ground.now.settings.now in
    let items = c.as_slice-evasion-items.result.now in
    let lists = lists_here p c.apply.result c.args.check items c.in_ok-evasions.evasions c.apply.ensures.position c.as_slice-evasion-items.ensures.moves c.in_ok-evasions.ensures in
    let same = c.as_slice-evasion-items.ensures.moves ∙ sym c.as_slice.ensures.moves in
    told_result c.order_laws.ensures.places p s (map g.T.Stop.signal c.args.means.now.stops.items)
    (map g.T.Stop.signal c.loop-evasion.means.stops.items) c.args.means.now.crews.items c.loop-evasion.means.crews.items c.args.check items c.loop-evasion.evasion-index
    c.loop-evasion.mates.items c.loop-evasion.opened c.told.result lists (omega (arith, c.loop-evasion-test.false)) c.loop-evasion.invariant.0
    (λ none searches shown. c.told.ensures.mated none searches
    (subst (λ (ms : List Mating). AreShown p searches c.args.check c.as_slice.result.now ms) (sym c.deref.ensures.value)
    (subst (λ (es : List Move). AreShown p searches c.args.check es c.loop-evasion.mates.items) same shown)))
    c.told.ensures.unknown
