use Rattle.std.proofs.Common.{◌<◌, ◌∙◌, ap, sym, arith}
use Rattle.worker_counts.specs.Counts.{SeatView}
use Rattle.worker_counts.proofs.Moves.{splits}
use Rattle.worker_counts.proofs.counts.WorkerCounts.make_seat.Goals as goal

pub split_seat-requires : goal.split_seat-requires
split_seat-requires c =
    let shared = c.self.inside.table.shared in
    let seat = c.seat.inside.seat in
    let many : 1 < seat.me.0.parts = rw (ap (λ (v : SeatView). v.view) c.seat.view_is) c.requires.parts in (
      ap (λ (v : SeatView). v.counts) c.seat.view_is ∙ (c.requires.seat ∙ sym c.self.view_is),
      c.self.invariant.2,
      splits shared.key seat.id seat.me.0 many,
    )

pub invariant_of-seat : goal.invariant_of-seat
invariant_of-seat c =
    let seat = c.seat.inside.seat in
    let many : 1 < seat.me.0.parts = rw (ap (λ (v : SeatView). v.view) c.seat.view_is) c.requires.parts in
    rw (c.split_seat.ensures.0, c.split_seat.ensures.2) (omega (arith, many), c.seat.invariant.1, c.seat.invariant.2, c.seat.invariant.3)
