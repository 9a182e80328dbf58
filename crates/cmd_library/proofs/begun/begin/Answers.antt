use Rattle.std.proofs.Common.{List, subst}
use Rattle.cert_text.specs.declared.certificate.Certificate.{Certificate}
use Rattle.cmd_library.specs.Inside.{IsChecked}
use Rattle.cmd_library.proofs.Verdict.{begun_of}
use Rattle.cmd_library.proofs.begun.begin.Goals as goal

pub returns-in-Ok-clause-begun : goal.returns-in-Ok-clause-begun
returns-in-Ok-clause-begun c =
    let p = c.in_ok-problem.problem.position in
    begun_of c.args.asked.now.form c.args.input.now p c.in_ok-problem.certificates.items c.in-Ok.begun c.in_ok-problem.ensures.posed
    (subst (λ (certificates : List Certificate). IsChecked p certificates c.in-Ok.begun) c.deref.ensures.value c.in-Ok.ensures.checked)
