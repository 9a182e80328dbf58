use Rattle.std.proofs.Common.{subst}
use Rattle.worker_counts.specs.Counts.{AreBelow}
use Rattle.shared_table.specs.Seat.{RowSeatView}
use Rattle.shared_table.proofs.seat.RowSeat.laws.Goals as goal

pub returns-clause-below : goal.returns-clause-below
returns-clause-below c = subst (λ (s : RowSeatView). AreBelow s.seat.counts.words s.seat.view.added) c.self.view_is c.laws.ensures.below
