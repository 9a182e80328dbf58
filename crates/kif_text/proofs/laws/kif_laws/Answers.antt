use Rattle.kif_text.proofs.Outcome.{one_outcome}
use Rattle.kif_text.proofs.laws.kif_laws.Goals as goal

pub returns : goal.returns
returns c = record { outcomes = one_outcome c.build_laws.ensures.once }
