use Rattle.std.proofs.Common.{◌≡◌, ◌<◌, length}
use Rattle.speed.proofs.shared.visits.Given as goal

-- it stays the same seat, with as much added
abbrev pub invariant-loop : goal.invariant-loop
invariant-loop l = (l.seat.counts ≡ l.counts) × (length l.seat.view.added < 100)
