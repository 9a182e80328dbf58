-- An escape is no mate.
use Rattle.std.proofs.Common.{sym, ◌∙◌}
use Rattle.survey.proofs.Verdicts.{escape-no_mate}
use Rattle.survey.proofs.decide.verdict.Goals as goal

pub returns-in-Escape-clause-is_true : goal.returns-in-Escape-clause-is_true
returns-in-Escape-clause-is_true c =
    escape-no_mate c.escape_is_no_mate.ensures c.args.problem.now.position c.args.note.now c.laws.ensures.true_note c.requires
    (sym c.conclusion.ensures ∙ c.in-Escape.is)
