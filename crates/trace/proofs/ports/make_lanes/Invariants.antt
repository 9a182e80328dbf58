use Rattle.std.proofs.Common.{◌≡◌, ◌+◌, ◌<◌}
use Rattle.trace.proofs.ports.make_lanes.Given as goal

-- each worker took a part of the first seats
abbrev pub invariant-loop-place : goal.invariant-loop-place
invariant-loop-place g l =
    (l.seat.counts ≡ l.ground.words.now) × (l.count < l.seat.view.parts + l.place)
    × (l.desk_seat.desk ≡ l.ground.desk.now) × (l.count < l.desk_seat.parts + l.place) × (l.desk_seat.draw_ends ≡ 0) × (l.desk_seat.claim_ends ≡ 0)
