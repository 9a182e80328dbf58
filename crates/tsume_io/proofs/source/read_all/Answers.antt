use Rattle.std.proofs.Common.{◌+◌, arith, ◌++◌, take, length-append, length-take-le}
use Rattle.std.proofs.lemmas.List.{length-take}
use Rattle.tsume_io.proofs.Pieces.{Took-append}
use Rattle.tsume_io.proofs.source.read_all.Goals as goal

-- What came before this read, and then what it gave.
pub returns-then-limit-len-clause-too_long_taken : goal.returns-then-limit-len-clause-too_long_taken
returns-then-limit-len-clause-too_long_taken g c =
    let before = c.loop-bytes.bytes.items in
    let more = take c.in_ok-count.count c.read.new.into in
    let read = c.in_ok-count.ensures in
    λ _. (
      before ++ more,
      omega (arith, length-append before more, length-take-le c.in_ok-count.count c.read.new.into read.within, length-take (c.min-most.result + 1) c.loop-bytes.piece),
      Took-append _ _ _ before more c.loop-bytes.invariant.took read.took,
    )

pub returns-in_err-extend_from_slice-clause-no_memory_within : goal.returns-in_err-extend_from_slice-clause-no_memory_within
returns-in_err-extend_from_slice-clause-no_memory_within g c =
    let before = c.loop-bytes.bytes.items in
    let more = take c.in_ok-count.count c.read.new.into in
    let read = c.in_ok-count.ensures in
    λ _. (
      before ++ more,
      omega (arith, length-append before more, length-take-le c.in_ok-count.count c.read.new.into read.within),
      Took-append _ _ _ before more c.loop-bytes.invariant.took read.took,
    )
