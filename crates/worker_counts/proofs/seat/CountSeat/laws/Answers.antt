use Rattle.std.proofs.Common.{subst}
use Rattle.worker_counts.specs.Counts.{SeatView, AreBelow}
use Rattle.worker_counts.proofs.seat.CountSeat.laws.Goals as goal

pub returns-clause-below : goal.returns-clause-below
returns-clause-below c = subst (λ (v : SeatView). AreBelow v.counts.words v.view.added) c.self.view_is c.self.invariant.3
