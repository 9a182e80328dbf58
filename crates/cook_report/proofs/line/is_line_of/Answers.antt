use Rattle.std.proofs.Common.{◌↔◌, sym, subst}
use Rattle.std.specs.Prelude.{IfOk, IsTrue}
use Rattle.cook_report.specs.declared.report.Line.{Line}
use Rattle.cook_report.specs.Valid.{IsLineOf}
use Rattle.cook_report.proofs.line.is_line_of.Goals as goal

pub returns-in-Mate-clause-line : goal.returns-in-Mate-clause-line
returns-in-Mate-clause-line c =
    subst (λ (line : Line). IfOk c.is_mate_line.result (λ found. IsTrue found ↔ IsLineOf c.args.problem.now.position line)) (sym c.in-Mate.is)
    c.is_mate_line.ensures.line

pub returns-in-Escape-clause-line : goal.returns-in-Escape-clause-line
returns-in-Escape-clause-line c =
    subst (λ (line : Line). IfOk c.is_escape_line.result (λ found. IsTrue found ↔ IsLineOf c.args.problem.now.position line)) (sym c.in-Escape.is)
    c.is_escape_line.ensures.line
