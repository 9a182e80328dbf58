use Rattle.std.proofs.Common.{List, length, map, arith, refl, sym, subst}
use Rattle.std.proofs.lemmas.Option.{slice_get_read}
use Rattle.list_laws.proofs.Standing.{contains_map, more, of_all}
use Rattle.board_core.specs.Order.{Lists}
use Rattle.shogi_rules.specs.Tsume.{IsCheck}
use Rattle.cook_report.specs.declared.report.Line.{Line}
use Rattle.cook_report.specs.Report.{check_of}
use Rattle.cook_report.specs.Valid.{IsLineOf}
use Rattle.cook_report.specs.Shown.{ShowsOf}
use Rattle.cook_report.proofs.Showing.{lines_show}
use Rattle.cook_report.proofs.checking.check_report.Goals as goal

pub loop-line-init : goal.loop-line-init
loop-line-init c k line low at = absurd (omega (arith, low))

pub is_line_of-requires : goal.is_line_of-requires
is_line_of-requires c =
    (c.in_ok-are_all_checks.ensures.0 c.if-not-branch.false).sound (check_of c.line-item.result)
    (contains_map check_of c.lines-lines.result.now c.line-item.result (c.loop-line.line-index, omega arith, sym c.line-item.is))

pub loop-line-preserved : goal.loop-line-preserved
loop-line-preserved c =
    let p = c.args.problem.now.position in
    let lines = c.lines-lines.result.now in
    let i = c.loop-line.line-index in
    let here = slice_get_read lines (length lines) i c.line-item.result refl (omega arith) c.line-item.is in
    more (λ (line : Line). IsLineOf p line × ShowsOf p line) lines i c.line-item.result here
    (c.in_ok-is_line_of.ensures.line.0 c.if-not-branch-2.false, c.in_ok-is_line_of.ensures.shows c.if-not-branch-2.false) c.loop-line.invariant

pub returns-clause-valid : goal.returns-clause-valid
returns-clause-valid c =
    let p = c.args.problem.now.position in (
      (λ _. record {
        checks = subst (λ (ls : List Line). Lists (IsCheck p.side p) (map check_of ls)) c.lines-lines.ensures (c.in_ok-are_all_checks.ensures.0 c.if-not-branch.false);
        each = λ line there.
            (of_all (λ (line : Line). IsLineOf p line × ShowsOf p line) c.lines-lines.result.now c.args.report.now c.loop-line.line-index c.lines-lines.ensures
            (omega arith) c.loop-line.invariant line there).0;
      }),
      (λ _. refl),
    )

pub returns-clause-shows : goal.returns-clause-shows
returns-clause-shows c _ =
    let p = c.args.problem.now.position in
    lines_show p c.args.report.now
    (subst (λ (ls : List Line). Lists (IsCheck p.side p) (map check_of ls)) c.lines-lines.ensures (c.in_ok-are_all_checks.ensures.0 c.if-not-branch.false))
    (λ line there.
    (of_all (λ (line : Line). IsLineOf p line × ShowsOf p line) c.lines-lines.result.now c.args.report.now c.loop-line.line-index c.lines-lines.ensures (omega arith)
    c.loop-line.invariant line there).1)
