use Rattle.std.proofs.Common.{◌≡◌, ◌<◌, ◌+◌, length, arith, subst, sym, ◌∙◌}
use Rattle.std.proofs.lemmas.Bool.{false≢true}
use Rattle.library_text.specs.Reading.{IsEndOf}
use Rattle.library_text.proofs.Reading.{bad_certificate, no_end}
use Rattle.library_text.proofs.read.library_of.Goals as goal

pub returns-in-Err-clause-end : goal.returns-in-Err-clause-end
returns-in-Err-clause-end c =
    let due : length c.loop-alloc.certificates.items < c.in-Some.count = omega (arith, c.len.ensures, c.loop-alloc.certificates.ok, c.loop-alloc-test.true) in
    let number : c.len-in-loop-alloc.result + 1 ≡ length c.loop-alloc.certificates.items + 1 = omega (arith, c.len-in-loop-alloc.ensures, c.loop-alloc.certificates.ok) in
    subst (IsEndOf c.args.bytes.now) (sym c.end_at.ensures)
    (bad_certificate c.in-Some.count c.loop-alloc.certificates.items c.loop-alloc.rest.now c.up_to_end.result.0.now c.up_to_end.result.1.now c.args.bytes.now
    (c.len-in-loop-alloc.result + 1) c.in-Err.end c.loop-alloc.invariant.0 due number c.up_to_end.ensures.parts c.up_to_end.ensures.ends c.in-Err.ensures)

pub returns-then-not-is_last_line-clause-end : goal.returns-then-not-is_last_line-clause-end
returns-then-not-is_last_line-clause-end c =
    let few = c.loop-alloc.invariant.1 in
    let all : length c.loop-alloc.certificates.items ≡ c.in-Some.count = omega (arith, c.len.ensures, c.loop-alloc.certificates.ok, c.loop-alloc-test.false, few) in
    let number : c.from.result + 1 ≡ c.in-Some.count + 1 = omega (arith, c.from.ensures) in
    no_end c.in-Some.count c.loop-alloc.certificates.items c.loop-alloc.rest.now c.args.bytes.now (c.from.result + 1) c.loop-alloc.invariant.0 all number
    (λ last. false≢true (sym c.if-not-is_last_line.true ∙ c.is_last_line.ensures.1 last))
