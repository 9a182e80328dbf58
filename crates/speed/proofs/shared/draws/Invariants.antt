use Rattle.std.proofs.Common.{◌≡◌}
use Rattle.speed.proofs.shared.draws.Given as goal

-- it stays the same desk's, and got a visit each time
abbrev pub invariant-loop : goal.invariant-loop
invariant-loop l = (l.seat.desk ≡ l.desk) × (l.seat.draw_ends ≡ 0)
