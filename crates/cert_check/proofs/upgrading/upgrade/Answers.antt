use Rattle.std.proofs.Common.{sym, subst}
use Rattle.cert_text.specs.declared.certificate.Certificate.{Certificate}
use Rattle.cert_text.specs.declared.certificate.Certificate.TheVariants.{Mate, Escape}
use Rattle.cert_check.specs.Valid.{IsValid}
use Rattle.cert_check.proofs.Shown.{valid_in_two}
use Rattle.cert_check.proofs.upgrading.upgrade.Goals as goal

pub returns-in-Mate-clause-valid : goal.returns-in-Mate-clause-valid
returns-in-Mate-clause-valid c = λ p valid.
    let laws = c.listing_laws.ensures in
    subst (λ m. IsValid (Mate m) p) (sym c.in_version.ensures)
    (valid_in_two laws.covers laws.borne_out laws.held (Mate c.in-Mate.mate) p (subst (λ (d : Certificate). IsValid d p) c.in-Mate.is valid))

pub returns-in-Escape-clause-valid : goal.returns-in-Escape-clause-valid
returns-in-Escape-clause-valid c = λ p valid.
    let laws = c.listing_laws.ensures in
    subst (λ m. IsValid (Escape m) p) (sym c.in_version-in-Escape.ensures)
    (valid_in_two laws.covers laws.borne_out laws.held (Escape c.in-Escape.escape) p (subst (λ (d : Certificate). IsValid d p) c.in-Escape.is valid))
