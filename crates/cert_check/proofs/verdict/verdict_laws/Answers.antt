use Rattle.cert_check.proofs.Once.{verdict_once}
use Rattle.cert_check.proofs.verdict.verdict_laws.Goals as goal

pub returns : goal.returns
returns c = record { once = verdict_once c.order_laws.ensures.apart }
