use Rattle.std.proofs.Common.{◌≡◌, refl}
use Rattle.wide_read.proofs.Lists.{none_by, some_by}
use Rattle.wide_read.proofs.Cuts.{goes_out, goes_empty}
use Rattle.wide_read.proofs.cutting.stretches_of.Goals as goal

pub returns-then-is_empty : goal.returns-then-is_empty
returns-then-is_empty c =
    goes_empty (λ stretch lines. lines ≡ stretch.now) c.loop-lines.stretches.items c.loop-lines.rest.now c.args.text.now c.loop-lines.invariant
    (none_by c.loop-lines.rest.now c.is_empty.result c.is_empty.ensures c.if-is_empty.true)

pub returns : goal.returns
returns c =
    goes_out (λ stretch lines. lines ≡ stretch.now) c.loop-lines.stretches.items _ c.loop-lines.rest c.loop-lines.rest.now c.args.text.now c.loop-lines.invariant refl
    (some_by c.loop-lines.rest.now c.is_empty.result c.is_empty.ensures c.if-is_empty.false) c.in_ok-push-2.ensures.items
