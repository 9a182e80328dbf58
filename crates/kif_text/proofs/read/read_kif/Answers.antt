use Rattle.kif_text.proofs.Outcome.{spelled_outcome}
use Rattle.std.proofs.Common.{Ok}
use Rattle.kif_text.proofs.read.read_kif.Goals as goal

pub returns-clause-read : goal.returns-clause-read
returns-clause-read c = λ p spells kept king. c.kif_laws.ensures.outcomes c.args.input.now c.outcome_of.result (Ok p) c.outcome_of.ensures.exact (spelled_outcome c.args.input.now p spells kept king)
