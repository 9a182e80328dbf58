use Rattle.std.proofs.Common.{◌≡◌, ap, ◌∙◌, rules}
use Rattle.kif_text.specs.Lines.{without_mark, header_lines}
use Rattle.kif_text.specs.Reading.{HasFirstFault, header_of}
use Rattle.kif_text.proofs.Outcome.{position_there, fault_there, line_there}
use Rattle.kif_text.proofs.read.outcome_of.Goals as goal

pub returns-in_err-diagram-clause-exact : goal.returns-in_err-diagram-clause-exact
returns-in_err-diagram-clause-exact c =
    let same : header_lines c.without_mark.result.now ≡ header_of c.args.input.now = ap header_lines (c.without_mark.ensures ∙ ap without_mark c.in-Ok.ensures.cases.0) in
    let there : HasFirstFault c.args.input.now c.in_err-diagram.field-0.0 = line_there c.args.input.now _ c.in_err-diagram.field-0.0 c.in-Ok.ensures.cases.1 same c.in_err-diagram.ensures in
    search (rules, there)

pub returns-in-Ok-build-clause-exact : goal.returns-in-Ok-build-clause-exact
returns-in-Ok-build-clause-exact c =
    let same : header_lines c.without_mark.result.now ≡ header_of c.args.input.now = ap header_lines (c.without_mark.ensures ∙ ap without_mark c.in-Ok.ensures.cases.0) in
    position_there c.args.input.now _ c.in_ok-diagram.diagram c.in-Ok-build.position c.in-Ok.ensures.cases.1 same c.in_ok-diagram.ensures c.if-diagram-lt9.false c.in-Ok-build.ensures.built

pub returns-in-Err-build-clause-exact : goal.returns-in-Err-build-clause-exact
returns-in-Err-build-clause-exact c =
    let same : header_lines c.without_mark.result.now ≡ header_of c.args.input.now = ap header_lines (c.without_mark.ensures ∙ ap without_mark c.in-Ok.ensures.cases.0) in
    fault_there c.args.input.now _ c.in_ok-diagram.diagram c.in-Err-build.bad c.in-Ok.ensures.cases.1 same c.in_ok-diagram.ensures c.if-diagram-lt9.false c.in-Err-build.ensures.built
