use Rattle.std.proofs.Common.{◌<◌, ◌∙◌, ap, sym}
use Rattle.worker_counts.specs.Counts.{SeatView}
use Rattle.worker_counts.proofs.Moves.{loads}
use Rattle.worker_counts.proofs.counts.WorkerCounts.load.Goals as goal

pub load-requires : goal.load-requires
load-requires c =
    let shared = c.self.inside.table.shared in
    let below : c.args.word < shared.table_id.words = rw c.self.view_is c.requires.word in
    let sized : c.args.word < shared.key = rw c.self.invariant.0 below in
    let seat = c.seat.inside.seat in (
      ap (λ (v : SeatView). v.counts) c.seat.view_is ∙ (c.requires.seat ∙ sym c.self.view_is),
      below,
      loads shared.key shared.table_id.slots seat.id seat.me c.args.word sized,
    )

pub invariant_of-seat : goal.invariant_of-seat
invariant_of-seat c = rw (c.load.ensures.0, c.load.ensures.2.0) c.seat.invariant
