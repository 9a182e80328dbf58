use Rattle.std.proofs.Common.{arith, refl, subst, sym, Ok}
use Rattle.hand_dominance.specs.declared.version.Version.TheVariants.{One}
use Rattle.cert_text.specs.Certificate.{CertificateView}
use Rattle.bound_text.specs.declared.entry.BoundEntry.{BoundEntry}
use Rattle.bound_text.specs.Reading.{IsBoundOutcome}
use Rattle.bound_text.proofs.Lines.{whole_read}
use Rattle.bound_text.proofs.read.bound_of.Goals as goal

pub returns : goal.returns
returns c =
    subst (λ (b : CertificateView BoundEntry). IsBoundOutcome c.args.problem.now.position c.args.bytes.now (Ok b)) (sym c.new.ensures)
    (whole_read c.args.problem.now.position c.in-Some.digits.now c.in-Some.rest.now c.args.bytes.now
    (record { version = One; problem = c.args.problem.now.position; entries = c.in_ok-entries.entries.items }) c.in-Some.ensures.found refl refl
    c.in_ok-entries.ensures.0 c.in_ok-entries.ensures.1 (omega (arith, c.in_ok-entries.entries.ok)) c.in_ok-entries.ensures.2)
