use Rattle.std.proofs.Common.{◌≡◌, ◌∙◌, ap, rules, Err}
use Rattle.board_core.specs.Kept.{IsKept}
use Rattle.shogi_rules.specs.Tsume.{IsProblem}
use Rattle.kif_text.specs.Lines.{without_mark}
use Rattle.kif_text.specs.Reading.{Spells}
use Rattle.kif_moves.specs.Reading.{IsMovesOutcome}
use Rattle.kif_moves.proofs.Following.{unmarked}
use Rattle.kif_moves.proofs.Outcomes.{end_there}
use Rattle.kif_moves.proofs.read.solution_of.Goals as goal

pub overflow_add-header_length : goal.overflow_add-header_length
overflow_add-header_length c =
    let few = c.header_length.ensures.few in
    let same = c.without_mark-text.ensures in
    let short = unmarked c.in-Ok-from_utf8.text.now c.without_mark-text.result.now same in
    search rules

pub returns-in_err-moves : goal.returns-in_err-moves
returns-in_err-moves c =
    let text : c.without_mark-text.result.now ≡ without_mark c.args.input.now = c.without_mark-text.ensures ∙ ap without_mark c.in-Ok-from_utf8.ensures.cases.0 in
    let spells : Spells c.args.input.now c.in-Ok.problem.position = search rules in
    let kept : IsKept c.in-Ok.problem.position = search rules in
    let problem : IsProblem c.in-Ok.problem.position = search rules in
    let there : IsMovesOutcome c.args.input.now (Err c.in_err-moves.field-0.0)
    = end_there c.args.input.now c.without_mark-text.result.now c.header_length.result c.in-Ok.problem.position c.in_err-moves.field-0.0
    text c.header_length.ensures.lines spells kept problem c.in_err-moves.ensures.none in
    search (rules, there)
