use Rattle.std.proofs.Common.{◌≡◌, ◌+◌, ◌≤◌, ◌∙◌, ap, sym, subst, length, arith}
use Rattle.worker_counts.specs.declared.view.TheConstants.{MOST_ADDED}
use Rattle.atomic_table.specs.Seated.{TableId}
use Rattle.worker_counts.specs.Counts.{SeatView, AreBelow}
use Rattle.std.proofs.lemmas.List.{length-append}
use Rattle.worker_counts.proofs.Views.{below-append}
use Rattle.worker_counts.proofs.Moves.{joins}
use Rattle.worker_counts.proofs.counts.WorkerCounts.join_seat.Goals as goal

pub join_seat-requires : goal.join_seat-requires
join_seat-requires c =
    let shared = c.self.inside.table.shared in
    let seat = c.seat.inside.seat in
    let joined = c.other.inside.seat in
    let seat_is = ap (λ (v : SeatView). v.view) c.seat.view_is in
    let joined_is = ap (λ (v : SeatView). v.view) c.other.view_is in
    let room : length seat.me.0.added + length joined.me.0.added ≤ MOST_ADDED = rw (seat_is, joined_is) c.requires.room in (
      ap (λ (v : SeatView). v.counts) c.seat.view_is ∙ (c.requires.seats.0 ∙ sym c.self.view_is),
      ap (λ (v : SeatView). v.counts) c.other.view_is ∙ (c.requires.seats.1 ∙ sym c.self.view_is),
      c.other.invariant.2,
      c.self.invariant.2,
      joins shared.key seat.id joined.id seat.me.0 joined.me.0 c.seat.invariant.0 (omega (arith, room)),
    )

pub invariant_of-seat : goal.invariant_of-seat
invariant_of-seat c =
    let seat = c.seat.inside.seat in
    let joined = c.other.inside.seat in
    let seat_is = ap (λ (v : SeatView). v.view) c.seat.view_is in
    let joined_is = ap (λ (v : SeatView). v.view) c.other.view_is in
    let room : length seat.me.0.added + length joined.me.0.added ≤ MOST_ADDED = rw (seat_is, joined_is) c.requires.room in
    let same : joined.table_id ≡ seat.table_id =
    ap (λ (v : SeatView). v.counts) c.other.view_is ∙ (c.requires.seats.1 ∙ (sym c.requires.seats.0 ∙ sym (ap (λ (v : SeatView). v.counts) c.seat.view_is))) in
    let theirs : AreBelow seat.table_id.words joined.me.0.added = subst (λ (t : TableId). AreBelow t.words joined.me.0.added) same c.other.invariant.3 in
    let long = length-append joined.me.0.added seat.me.0.added in
    let some = c.seat.invariant.0 in
    rw (c.join_seat.ensures.0, c.join_seat.ensures.2)
    (omega (arith, some), omega (arith, long, room), c.seat.invariant.2, below-append seat.table_id.words seat.me.0.added joined.me.0.added c.seat.invariant.3 theirs)
