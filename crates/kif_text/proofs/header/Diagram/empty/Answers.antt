use Rattle.std.proofs.Common.{refl, arith}
use Rattle.kif_text.specs.Header.{rows_of, last_said, HasLineFault}
use Rattle.kif_text.proofs.First.{none_in_nothing}
use Rattle.kif_text.proofs.header.Diagram.empty.Goals as goal

pub returns : goal.returns
unfolding rows_of last_said
returns c = record {
  well = none_in_nothing HasLineFault;
  rows = refl;
  few = omega arith;
  size = refl;
  cells = λ number column below from to. absurd (omega arith);
  black = c.empty.ensures;
  white = c.empty-2.ensures;
  side = refl;
}
