use Rattle.std.proofs.Common.{◌≡◌, ◌↔◌}
use Rattle.std.proofs.lemmas.Result.{IfOk-weaker}
use Rattle.cert_check.specs.Valid.{IsValid}
use Rattle.cert_check.specs.Reasons.{IsVerdict}
use Rattle.cert_check.specs.declared.verdict.Verdict.{Verdict}
use Rattle.cert_check.specs.declared.verdict.Verdict.TheVariants.{Accepted}
use Rattle.cert_check.proofs.Verdicts.{accepted_iff}
use Rattle.cert_check.proofs.verdict.check.Goals as goal

pub returns-clause-accepted : goal.returns-clause-accepted
returns-clause-accepted c =
    IfOk-weaker c.verdict_on.result (IsVerdict c.args.certificate.now c.args.problem.now.position)
    (λ (v : Verdict). (v ≡ Accepted) ↔ IsValid c.args.certificate.now c.args.problem.now.position)
    (λ v h. accepted_iff c.args.certificate.now c.args.problem.now.position v h) c.verdict_on.ensures.verdict
