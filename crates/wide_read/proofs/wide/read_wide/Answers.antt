use Rattle.wide_read.proofs.Outcomes.{read_again}
use Rattle.wide_read.proofs.wide.read_wide.Goals as goal

pub returns-clause-again : goal.returns-clause-again
returns-clause-again g c = λ certificate readable text.
    read_again c.cert_laws.ensures.texts c.cert_laws.ensures.faultless certificate c.args.bytes.now c.certificate_by.result readable text c.certificate_by.ensures
