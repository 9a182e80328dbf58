use Rattle.std.proofs.Common.{◌+◌, arith, length}
use Rattle.library_check.proofs.Judging.{one_more, all_good, first_bad}
use Rattle.library_check.proofs.refused.first_of.Goals as goal

pub loop-place-preserved : goal.loop-place-preserved
loop-place-preserved c =
    one_more c.args.certificates.now c.loop-place.place (c.loop-place.place + 1) c.index-certificates-place.result c.in_ok-judged.field-0 (omega arith)
    c.index-certificates-place.is c.in_ok-judged.ensures c.in-None.is c.loop-place.invariant

pub returns-in-Some : goal.returns-in-Some
returns-in-Some c =
    first_bad c.args.certificates.now c.loop-place.place c.index-certificates-place.result c.in_ok-judged.field-0 c.in-Some.refused (omega arith)
    c.index-certificates-place.is c.in_ok-judged.ensures c.in-Some.is c.loop-place.invariant

pub returns : goal.returns
returns c = all_good c.args.certificates.now (length c.args.certificates.now) (omega arith) (λ k d low at. c.loop-place.invariant k d (omega arith) at)
