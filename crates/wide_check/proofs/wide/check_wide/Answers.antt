use Rattle.wide_check.proofs.Heard.{accepted_where_valid}
use Rattle.wide_check.proofs.wide.check_wide.Goals as goal

pub returns-clause-accepted : goal.returns-clause-accepted
returns-clause-accepted g c =
    accepted_where_valid c.args.certificate.now c.args.problem.now.position
    (c.valid_is_accepted.ensures.accepted c.args.certificate.now c.args.problem.now.position) c.verdict_by.result c.verdict_by.ensures.verdict
