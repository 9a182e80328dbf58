use Rattle.std.proofs.Common.{◌∙◌, sym, subst}
use Rattle.cert_text.specs.declared.certificate.Certificate.{Certificate}
use Rattle.cert_text.specs.Reading.{IsReadable, IsTextOf}
use Rattle.cmd_record.proofs.judging.answer.Goals as goal

pub returns-in-Escape-clause-truth : goal.returns-in-Escape-clause-truth
returns-in-Escape-clause-truth c = λ stops unused. (
  (
    c.in-Escape.field-0,
    record {
      read = subst (λ (found : Certificate). IsReadable found × IsTextOf found c.args.input.now) c.in-Escape.is c.in-Ok.ensures.exact;
      only = λ other readable text. sym (c.in-Ok.ensures.again other readable text) ∙ c.in-Escape.is;
    },
  ),
  unused,
)

pub returns-in-Ok-recorded-clause-truth : goal.returns-in-Ok-recorded-clause-truth
returns-in-Ok-recorded-clause-truth c = λ stops unused. (
  record {
    certificate = c.in-Mate.mate;
    text = record {
      read = subst (λ (found : Certificate). IsReadable found × IsTextOf found c.args.input.now) c.in-Mate.is c.in-Ok.ensures.exact;
      only = λ other readable text. sym (c.in-Ok.ensures.again other readable text) ∙ c.in-Mate.is;
    };
    true_of = c.in-Ok-recorded.ensures.truth;
  },
  unused,
)
