use Rattle.std.proofs.Common.{subst}
use Rattle.cert_text.specs.Kinds.{positions_in}
use Rattle.hand_dominance.specs.BorneOut.{AreKept}
use Rattle.cert_check.specs.Hearing.{Case}
use Rattle.cert_check.proofs.Covered.{places_kept}
use Rattle.cert_check.proofs.hearing.Hearing.laws.Goals as goal

pub returns-clause-positions : goal.returns-clause-positions
returns-clause-positions c =
    subst (λ (k : Case). AreKept (positions_in k.certificate)) c.self.view_is
    (places_kept c.self.inside.places (positions_in c.self.inside.certificate.now) c.self.invariant.places)
