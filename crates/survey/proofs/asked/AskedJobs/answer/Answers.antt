-- The problem is that of the number.
use Rattle.std.proofs.Common.{◌+◌}
use Rattle.survey.specs.Tally.{IsTallied, ComesTo, survey_settings}
use Rattle.survey.proofs.Verdicts.{answer_so}
use Rattle.survey.proofs.asked.AskedJobs.answer.Goals as goal

pub returns : goal.returns
returns c =
    let asked = c.args.self.now in
    answer_so c.decide.result (ComesTo c.problem_of-problem.result.position (survey_settings asked.expansions)) (IsTallied asked.expansions (asked.seed + c.args.number)) c.decide.ensures
    (λ tally comes. record {
      problem = c.problem_of-problem.result.position;
      generated = c.problem_of-problem.ensures.generated;
      comes = comes;
    })
