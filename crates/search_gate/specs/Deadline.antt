-- A stop with a deadline.
use Rattle.std.specs.Prelude.{◌≤◌, ◌+◌, ◌-◌, ◌^◌, ℕ, min, Option, Some, None}
use Rattle.search_gate.specs.Stop.{Signal, one_more}
use Rattle.search_gate.specs.declared.clock.DeadlineStop.{DeadlineStop}

-- Where a stop ends that is armed for so many milliseconds when the clock shows this: that much
-- later, at most at the greatest number of 64 bits; nowhere where it is armed for none.
abbrev pub end_after : Option ℕ → ℕ → Option ℕ
end_after None now = None
end_after (Some milliseconds) now = Some (min (now + milliseconds) (2 ^ 64 - 1))

-- An end is set, and the clock shows it or more.
abbrev pub HasPassed : Option ℕ → ℕ → Type 0
HasPassed None now = ⊥
HasPassed (Some end) now = end ≤ now

-- How often a clock was asked, once it is asked where a time is needed: where a stop is armed for
-- one, or has an end.
abbrev pub asked_for : Option ℕ → ℕ → ℕ
asked_for None asks = asks
asked_for (Some time) asks = one_more asks

-- The clock that a stop goes by.
abbrev pub clock_of : {C : Type 0} → DeadlineStop C → C
clock_of stop = stop.clock

-- From when on it signals.
abbrev pub end_of : {C : Type 0} → DeadlineStop C → Option ℕ
end_of stop = stop.end

-- How often it was polled and signalled, at which poll last, and how it was armed.
abbrev pub deadline_signal : {C : Type 0} → DeadlineStop C → Signal
deadline_signal stop = record { polls = stop.polls; raised = stop.raised; last = stop.last; armed = stop.armed; arms = stop.arms; early = stop.early }
