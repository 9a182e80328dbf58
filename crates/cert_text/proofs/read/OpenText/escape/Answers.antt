use Rattle.std.proofs.Common.{subst, sym, Ok}
use Rattle.cert_text.specs.Certificate.{Escaping, escape_form}
use Rattle.cert_text.specs.Reading.{IsCertificateOutcome}
use Rattle.cert_text.specs.declared.certificate.Certificate.TheVariants as certificates
use Rattle.cert_text.specs.declared.fault.CertEnd.TheVariants as ends
use Rattle.cert_text.specs.declared.head.Claim.TheVariants.{Escape}
use Rattle.cert_text.proofs.Bodies.{claimed, begins_claimed, all_found, not_all_found, err_read}
use Rattle.cert_text.proofs.read.OpenText.escape.Goals as goal

pub returns : goal.returns
returns c = λ bytes is begins.
    let problem = c.args.self.problem.position in
    let begun = begins_claimed c.args.self.title Escape c.args.self.count problem c.args.self.rest.now bytes is begins in
    subst (λ (m : Escaping). IsCertificateOutcome bytes (Ok (certificates.Escape m))) (sym c.new.ensures)
    (all_found (claimed c.args.self.title Escape) (escape_form problem) c.args.self.count problem c.args.self.rest.now bytes c.args.lines.entries.items c.in_ok-entries.entries.items
    c.args.lines.last.now c.args.lines.stop begun c.requires c.in_ok-entries.ensures.same c.in_ok-entries.ensures.all)

pub returns-in_err-entries : goal.returns-in_err-entries
returns-in_err-entries c = λ bytes is begins.
    let problem = c.args.self.problem.position in
    let begun = begins_claimed c.args.self.title Escape c.args.self.count problem c.args.self.rest.now bytes is begins in
    err_read bytes c.from_residual.result (ends.Fault c.in_err-entries.field-0.0)
    c.from_residual.ensures.0 c.from_residual.ensures.1
    (not_all_found (claimed c.args.self.title Escape) (escape_form problem) c.args.self.count problem c.args.self.rest.now bytes c.args.lines.entries.items c.args.lines.last.now c.args.lines.stop
    c.in_err-entries.field-0.0 (λ fault h. h) begun c.requires c.in_err-entries.ensures.not_all c.in_err-entries.ensures.fault)
