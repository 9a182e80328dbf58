use Rattle.std.proofs.Common.{List, ℕ, subst, Err}
use Rattle.cert_text.specs.declared.certificate.Certificate.TheVariants as certificates
use Rattle.cert_text.specs.Reading.{IsTextOf, IsCertificateOutcome}
use Rattle.shortest_text.proofs.Fronts.{whole_text, mate_read, no_escape_read, mate_err}
use Rattle.shortest_text.proofs.certificate.certificate_of.Goals as goal

pub returns-in-Ok-Mate : goal.returns-in-Ok-Mate
returns-in-Ok-Mate c =
    let begins = c.begins_as_mate.ensures.yes c.if-not-begins_as_mate.false in
    let of_one = c.is_of_one.ensures.0 c.if-not-is_of_one.false in
    let whole = whole_text _ _ _ _ _ c.args.front.now c.args.text.now c.new-whole.ensures.items c.in_ok-extend_from_slice.ensures.items c.in_ok-push.ensures.items
    c.in_ok-extend_from_slice-2.ensures.items c.deref.ensures.value in
    let exact = rw c.in-Ok-Mate.field-0-is at c.in-Ok-Mate.ensures.exact in
    mate_read c.args.front.now c.args.text.now _ c.requires begins of_one exact.0 (subst (λ (t : List ℕ). IsTextOf (certificates.Mate c.in-Ok-Mate.mate) t) whole exact.1)

pub returns-in-Ok-Escape : goal.returns-in-Ok-Escape
returns-in-Ok-Escape c =
    let begins = c.begins_as_mate.ensures.yes c.if-not-begins_as_mate.false in
    let whole = whole_text _ _ _ _ _ c.args.front.now c.args.text.now c.new-whole.ensures.items c.in_ok-extend_from_slice.ensures.items c.in_ok-push.ensures.items
    c.in_ok-extend_from_slice-2.ensures.items c.deref.ensures.value in
    let exact = rw c.in-Ok-Escape.field-0-is at c.in-Ok-Escape.ensures.exact in
    absurd (no_escape_read c.args.front.now c.args.text.now c.in-Ok-Escape.field-0-0 c.requires begins
    (subst (λ (t : List ℕ). IsTextOf (certificates.Escape c.in-Ok-Escape.field-0-0) t) whole exact.1))

pub returns : goal.returns
returns c =
    let begins = c.begins_as_mate.ensures.yes c.if-not-begins_as_mate.false in
    let of_one = c.is_of_one.ensures.0 c.if-not-is_of_one.false in
    let whole = whole_text _ _ _ _ _ c.args.front.now c.args.text.now c.new-whole.ensures.items c.in_ok-extend_from_slice.ensures.items c.in_ok-push.ensures.items
    c.in_ok-extend_from_slice-2.ensures.items c.deref.ensures.value in
    mate_err c.args.front.now c.args.text.now c.in-Err.end c.requires begins of_one (subst (λ (t : List ℕ). IsCertificateOutcome t (Err c.in-Err.end)) whole c.in-Err.ensures.exact)
