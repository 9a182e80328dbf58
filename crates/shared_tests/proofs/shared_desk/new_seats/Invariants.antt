use Rattle.std.proofs.Common.{◌≡◌, ◌-◌, length, All}
use Rattle.word_desk.specs.WordDesk.{unused}
use Rattle.shared_tests.proofs.shared_desk.new_seats.Given as goal

-- each seat took a part of the first one
abbrev pub invariant-loop : goal.invariant-loop
invariant-loop l =
    (l.first ≡ record l.initial.first { parts = l.initial.first.parts - l.counter })
    × All (λ seat. seat ≡ unused l.desk 1) l.seats.items
    × (length l.seats.items ≡ l.counter)
