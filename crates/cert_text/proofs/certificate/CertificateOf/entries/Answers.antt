use Rattle.std.proofs.Common.{map, subst}
use Rattle.mate_facts.specs.Entries.{AreApart}
use Rattle.cert_text.proofs.Apart.{rising_apart}
use Rattle.cert_text.proofs.certificate.CertificateOf.entries.Goals as goal

pub returns-clause-apart : goal.returns-clause-apart
returns-clause-apart g c =
    subst (λ m. AreApart (map (g.E.Entry.form m.problem).at m.entries)) c.self.view_is
    (rising_apart (map (g.E.Entry.form c.self.inside.problem.position).at c.self.inside.entries.items) c.self.invariant.rising)
