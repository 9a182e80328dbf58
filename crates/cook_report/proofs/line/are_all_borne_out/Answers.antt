use Rattle.cook_report.proofs.Heard.{heard}
use Rattle.cook_report.proofs.line.are_all_borne_out.Goals as goal

pub returns : goal.returns
returns c =
    heard c.in_ok-hearing.hearing c.args.certificate.now c.in_ok-copy_of.field-0 c.args.problem.now.position c.count.result c.in_ok-objection.objection c.is_none.result
    c.in_ok-copy_of.ensures c.in_ok-hearing.ensures c.count.ensures c.in_ok-objection.ensures c.is_none.ensures
