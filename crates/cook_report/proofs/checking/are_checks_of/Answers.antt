use Rattle.std.proofs.Common.{◌∙◌, length, arith, refl, sym, ap, below_more}
use Rattle.std.proofs.lemmas.Option.{slice_get_read, slice_get_within, same_Some}
use Rattle.cook_report.specs.Report.{check_of}
use Rattle.cook_report.proofs.Heard.{all_same}
use Rattle.cook_report.proofs.checking.are_checks_of.Goals as goal

pub loop-place-init : goal.loop-place-init
loop-place-init c k low = absurd (omega (arith, low))

pub loop-place-preserved : goal.loop-place-preserved
loop-place-preserved c =
    let lines = c.args.lines.now in
    let moves = c.args.moves.now in
    let k = c.loop-place.place in
    let many = c.if-lines-moves.false in
    let line_there = slice_get_read lines (length lines) k c.index-lines-place.result refl (omega arith) c.index-lines-place.is in
    let move_there = slice_get_read moves (length moves) k c.index-moves-place.result refl (omega (arith, many)) c.index-moves-place.is in
    below_more _ _ c.loop-place.invariant
    (λ line m at there.
    ap check_of (same_Some line c.index-lines-place.result (sym at ∙ line_there))
    ∙ (sym c.check.ensures ∙ (c.is_same.ensures.same.0 c.if-not-is_same.false ∙ same_Some c.index-moves-place.result m (sym move_there ∙ there))))

pub returns : goal.returns
returns c = (
  (λ _. all_same c.args.lines.now c.args.moves.now c.if-lines-moves.false
      (λ k line m at there.
      let inside = slice_get_within c.args.lines.now k line at in
      c.loop-place.invariant k (omega (arith, inside)) line m at there)),
  (λ _. refl),
)
