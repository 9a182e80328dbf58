use Rattle.std.proofs.Common.{◌<◌, ◌∙◌, ap, sym, length, arith}
use Rattle.worker_counts.specs.declared.view.TheConstants.{MOST_ADDED}
use Rattle.worker_counts.specs.Counts.{SeatView}
use Rattle.worker_counts.proofs.Views.{below-cons}
use Rattle.worker_counts.proofs.Moves.{adds}
use Rattle.worker_counts.proofs.counts.WorkerCounts.add.Goals as goal

pub fetch_add-requires : goal.fetch_add-requires
fetch_add-requires c =
    let shared = c.self.inside.table.shared in
    let below : c.args.word < shared.table_id.words = rw c.self.view_is c.requires.word in
    let sized : c.args.word < shared.key = rw c.self.invariant.0 below in
    let seat = c.seat.inside.seat in
    let room : length seat.me.0.added < MOST_ADDED = rw (ap (λ (v : SeatView). v.view) c.seat.view_is) c.requires.room in (
      ap (λ (v : SeatView). v.counts) c.seat.view_is ∙ (c.requires.seat ∙ sym c.self.view_is),
      below,
      adds shared.key shared.table_id.slots seat.id seat.me c.args.word sized c.seat.invariant.0 room,
    )

pub invariant_of-seat : goal.invariant_of-seat
invariant_of-seat c =
    let seat = c.seat.inside.seat in
    let room : length seat.me.0.added < MOST_ADDED = rw (ap (λ (v : SeatView). v.view) c.seat.view_is) c.requires.room in
    let within : c.args.word < seat.table_id.words = rw (ap (λ (v : SeatView). v.counts) c.seat.view_is ∙ c.requires.seat) c.requires.word in
    rw (c.fetch_add.ensures.0, c.fetch_add.ensures.2.0)
    (c.seat.invariant.0, omega (arith, room), c.seat.invariant.2, below-cons seat.table_id.words c.args.word seat.me.0.added within c.seat.invariant.3)
