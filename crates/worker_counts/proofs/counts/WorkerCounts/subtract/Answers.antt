use Rattle.std.proofs.Common.{◌<◌, ◌∙◌, ap, sym, arith}
use Rattle.worker_counts.specs.Counts.{SeatView, times}
use Rattle.worker_counts.proofs.Views.{length-without_one-le, below-less}
use Rattle.worker_counts.proofs.Moves.{subtracts}
use Rattle.worker_counts.proofs.counts.WorkerCounts.subtract.Goals as goal

pub fetch_sub-requires : goal.fetch_sub-requires
fetch_sub-requires c =
    let shared = c.self.inside.table.shared in
    let below : c.args.word < shared.table_id.words = rw c.self.view_is c.requires.word in
    let sized : c.args.word < shared.key = rw c.self.invariant.0 below in
    let seat = c.seat.inside.seat in
    let there : 0 < times c.args.word seat.me.0.added = rw (ap (λ (v : SeatView). v.view) c.seat.view_is) c.requires.added in (
      ap (λ (v : SeatView). v.counts) c.seat.view_is ∙ (c.requires.seat ∙ sym c.self.view_is),
      below,
      subtracts shared.key shared.table_id.slots seat.id seat.me c.args.word sized there,
    )

pub invariant_of-seat : goal.invariant_of-seat
invariant_of-seat c =
    let me = c.fetch_sub.ensures.2.0 in
    let short = length-without_one-le c.args.word c.seat.inside.seat.me.0.added in
    let seat = c.seat.inside.seat in
    let there : 0 < times c.args.word seat.me.0.added = rw (ap (λ (v : SeatView). v.view) c.seat.view_is) c.requires.added in
    rw (c.fetch_sub.ensures.0, me) (c.seat.invariant.0, omega (arith, short, c.seat.invariant.1), c.seat.invariant.2, below-less seat.table_id.words c.args.word seat.me.0.added there c.seat.invariant.3)
