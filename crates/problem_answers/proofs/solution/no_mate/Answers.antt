use Rattle.std.proofs.Common.{refl}
use Rattle.cert_text.specs.declared.certificate.Certificate.TheVariants as certificates
use Rattle.problem_answers.proofs.Shown.{no_mate_told}
use Rattle.problem_answers.proofs.solution.no_mate.Goals as goal

pub returns-clause-shown : goal.returns-clause-shown
returns-clause-shown c =
    let escape = certificates.Escape c.args.certificate in
    let p = c.args.problem.now.position in (
      refl,
      record {
        no_mate = (c.valid_is_accepted.ensures.readable escape p c.requires.readable c.requires.valid).no_mate;
        valid = c.requires.valid;
        accepted = λ verdict is. c.valid_is_accepted.ensures.accepted escape p verdict is c.requires.valid;
        readable = c.requires.readable;
        text = no_mate_told c.args.certificate;
      },
    )
