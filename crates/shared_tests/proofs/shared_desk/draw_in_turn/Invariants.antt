use Rattle.std.proofs.Common.{◌≡◌, ◌+◌, length, All}
use Rattle.shared_tests.proofs.shared_desk.draw_in_turn.Given as goal

-- who waits has drawn no end, and no seat is lost
abbrev pub invariant-loop : goal.invariant-loop
invariant-loop l =
    All (λ seat. (seat.desk ≡ l.desk) × (seat.parts ≡ 1) × (seat.draw_ends ≡ 0)) l.waiting.items
    × All (λ seat. (seat.desk ≡ l.desk) × (seat.parts ≡ 1)) l.ended.items
    × (length l.ended.items + length l.waiting.items ≡ length l.initial.waiting.items)
