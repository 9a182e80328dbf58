use Rattle.std.proofs.Common.{◌≡◌, ◌≤◌, ◌++◌, List, [], length, map, take, ap, sym, ◌∙◌, arith, rules}
use Rattle.problem_lines.specs.Lines.{NumberedLine, seen}
use Rattle.cmd_collection.specs.declared.reports.Reported.{Reported}
use Rattle.cmd_collection.proofs.Places.{refilled}
use Rattle.cmd_collection.proofs.reports.refill.Goals as goal

pub returns-clause-same : goal.returns-clause-same
returns-clause-same g c =
    let empty : c.args.ahead.now.items ≡ [] = c.has_none.ensures.none (search rules) in
    let all = c.in_ok-ahead.field-0.items in
    let given = c.deref.ensures.value in
    let within : length all ≤ length c.in_ok-stretch.stretch.items = omega (arith, c.in_ok-ahead.ensures.first, ap length given) in
    ap (λ (l : List Reported). map (λ one. seen one.line) l ++ c.args.lines.now) empty
    ∙ refilled c.args.lines.now c.stretch.new.lines c.in_ok-stretch.stretch.items all (search rules)
    within (c.in_ok-ahead.ensures.lines ∙ ap (take (length all)) given)
    ∙ ap (λ (l : List NumberedLine). map (λ one. seen one.line) all ++ l) (search rules)

pub returns-then-not-has_none-clause-none : goal.returns-then-not-has_none-clause-none
returns-then-not-has_none-clause-none g c = λ empty. let done = c.has_none.ensures.some empty in search rules
