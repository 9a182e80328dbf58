use Rattle.std.proofs.Common.{◌∙◌, subst, ap}
use Rattle.std.specs.Prelude.{IsTrue}
use Rattle.std.proofs.lemmas.Result.{IfOk-weaker}
use Rattle.board_core.specs.Board.{Board}
use Rattle.shogi_rules.specs.Rules.{after}
use Rattle.shogi_rules.specs.Tsume.{IsEvasion}
use Rattle.mate_def.specs.Mate.{IsMate}
use Rattle.cook_report.specs.Shown.{ShowsNone}
use Rattle.cook_report.proofs.Showing.{none_shows}
use Rattle.cook_report.proofs.line.is_escape_line.Goals as goal

pub returns-clause-shows : goal.returns-clause-shows
returns-clause-shows c =
    let p = c.args.problem.now.position in
    let led = c.apply.ensures.position ∙ ap (λ (b : Board). after b c.args.evasion) c.apply-checked.ensures.position in
    IfOk-weaker c.is_valid_escape.result (λ found. IsTrue found → ¬ IsMate c.apply.result.side c.apply.result)
    (λ found. IsTrue found → ShowsNone p c.args.check c.args.evasion)
    (λ found none yes.
    none_shows p c.args.check c.args.evasion c.requires
    (subst (λ (b : Board). IsEvasion p.side b c.args.evasion) c.apply-checked.ensures.position (c.is_evasion.ensures.0 c.if-not-is_evasion.false))
    (subst (λ (b : Board). ¬ IsMate b.side b) led (none yes)))
    c.is_valid_escape.ensures.none
