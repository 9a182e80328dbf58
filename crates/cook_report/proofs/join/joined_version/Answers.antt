use Rattle.std.proofs.Common.{◌≡◌, length, arith, refl, sym, ◌∙◌}
use Rattle.std.proofs.lemmas.Option.{slice_get_read}
use Rattle.list_laws.proofs.Standing.{more, of_all}
use Rattle.hand_dominance.specs.declared.version.Version.TheVariants.{One}
use Rattle.cert_text.specs.Certificate.{Mating}
use Rattle.cook_report.proofs.join.joined_version.Goals as goal

pub loop-certificate-init : goal.loop-certificate-init
loop-certificate-init c k its low at = absurd (omega (arith, low))

pub loop-certificate-preserved : goal.loop-certificate-preserved
loop-certificate-preserved c =
    let certificates = c.args.certificates.now in
    let i = c.loop-certificate.certificate-index in
    let here = slice_get_read certificates (length certificates) i c.certificate-item.result refl (omega arith) c.certificate-item.is in
    more (λ (its : Mating). its.version ≡ One) certificates i c.certificate-item.result here (sym c.version.ensures ∙ c.in-One.is) c.loop-certificate.invariant

pub returns : goal.returns
returns c = of_all (λ (its : Mating). its.version ≡ One) c.args.certificates.now c.args.certificates.now c.loop-certificate.certificate-index refl (omega arith)
    c.loop-certificate.invariant
