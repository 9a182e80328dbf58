use Rattle.std.proofs.Common.{◌≡◌, ◌<◌, ap, ◌∙◌}
use Rattle.atomic_table.specs.Seated.{TableId}
use Rattle.worker_counts.specs.declared.view.TheConstants.{MOST_SEATS}
use Rattle.worker_counts.specs.Counts.{SeatView, times}
use Rattle.worker_counts.proofs.Moves.{closes, closes_all, all_zero}
use Rattle.worker_counts.proofs.counts.WorkerCounts.close.Goals as goal

pub returns-clause-counts : goal.returns-clause-counts
returns-clause-counts c word lt =
    let shared = c.self.inside.table.shared in
    let seat = c.seat.inside.seat in
    let view_is = ap (λ (v : SeatView). v.view) c.seat.view_is in
    let every : seat.me.0.parts ≡ MOST_SEATS = rw view_is c.requires.every_part in
    let below : word < shared.key = rw (c.self.invariant.0, c.self.view_is) lt in
    rw (← view_is) (closes shared.key seat.id seat.me.0 _ _ every c.close_with.ensures.values.2 word below)

pub returns-clause-zero : goal.returns-clause-zero
returns-clause-zero c empty =
    let shared = c.self.inside.table.shared in
    let seat = c.seat.inside.seat in
    let size = c.self.invariant.0 ∙ ap (λ (t : TableId). t.words) c.self.view_is in
    let words = closes_all shared.key seat.id seat.me.0 _ _ c.close_with.ensures.values.2 in
    all_zero _ c.args.self.words (words ∙ size) (λ word lt. returns-clause-counts c word lt ∙ ap (times word) empty)
