use Rattle.std.proofs.Common.{◌≡◌, ◌+◌, length, All}
use Rattle.shared_tests.proofs.shared_desk.join_all.Given as goal

-- the first seat has the parts of those that were joined
abbrev pub invariant-loop-seat : goal.invariant-loop-seat
invariant-loop-seat l =
    (l.first.desk ≡ l.desk)
    × All (λ seat. (seat.desk ≡ l.desk) × (seat.parts ≡ 1)) l.seats.items
    × (l.first.parts + length l.seats.items ≡ l.initial.first.parts + length l.initial.seats.items)

abbrev pub decreases-loop-seat : goal.decreases-loop-seat
decreases-loop-seat l = length l.seats.items
