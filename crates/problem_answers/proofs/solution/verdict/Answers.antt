use Rattle.std.proofs.Common.{◌≡◌, subst}
use Rattle.cert_text.specs.declared.certificate.Certificate.{Certificate}
use Rattle.cert_text.specs.declared.certificate.Certificate.TheVariants as certificates
use Rattle.cert_text.specs.Kinds.{claim_of, version_of}
use Rattle.notes.specs.Derivation.{conclusion_of, version_in}
use Rattle.cert_extract.specs.Extracted.{claim_by, ComesFrom}
use Rattle.problem_answers.proofs.Shown.{shown_by, verdict_of}
use Rattle.problem_answers.proofs.solution.verdict.Goals as goal

pub returns-in-Ok-Mate-clause-verdict : goal.returns-in-Ok-Mate-clause-verdict
returns-in-Ok-Mate-clause-verdict c =
    let arm = c.in-Ok-Mate in
    verdict_of c.mate.result c.args.problem.now.position c.args.note.now (certificates.Mate arm.certificate)
    (subst (λ (z : Certificate). claim_of z ≡ claim_by (conclusion_of c.args.note.now)) arm.field-0-is arm.ensures.kind)
    (subst (λ (z : Certificate). version_of z ≡ version_in c.args.note.now) arm.field-0-is arm.ensures.version)
    (subst (λ (z : Certificate). ComesFrom c.args.note.now z) arm.field-0-is arm.ensures.from) c.mate.ensures.shown

pub returns-in-Ok-Escape-clause-verdict : goal.returns-in-Ok-Escape-clause-verdict
returns-in-Ok-Escape-clause-verdict c =
    let arm = c.in-Ok-Escape in
    shown_by c.no_mate.result c.args.problem.now.position c.args.note.now (certificates.Escape arm.certificate)
    (subst (λ (z : Certificate). claim_of z ≡ claim_by (conclusion_of c.args.note.now)) arm.field-0-is arm.ensures.kind)
    (subst (λ (z : Certificate). version_of z ≡ version_in c.args.note.now) arm.field-0-is arm.ensures.version)
    (subst (λ (z : Certificate). ComesFrom c.args.note.now z) arm.field-0-is arm.ensures.from) c.no_mate.ensures.shown
