-- When a stop signals that hears what is read ahead.
use Rattle.std.specs.Prelude.{◌+◌, ◌-◌, ◌^◌, ◌⊎◌, ℕ, min, Option, Some, None, IsTrue, if◌then◌else◌}
use Rattle.search_gate.specs.Deadline.{HasPassed, asked_for}
use Rattle.search_gate.specs.Stop.{Signal}
use Rattle.reading_ahead.specs.declared.hearing.Heard.{Heard}
use Rattle.reading_ahead.specs.declared.hearing.Listener.{Listener}
use Rattle.reading_ahead.specs.declared.stop.HeardStop.{HeardStop}

-- The end that holds: the one that the stop was armed for; where it was armed for none, a second
-- after the input was left, if it was.
abbrev pub end_in_force : Option ℕ → Option ℕ → Option ℕ
end_in_force (Some end) left_at = Some end
end_in_force None (Some left_at) = Some (min (left_at + 1000) (2 ^ 64 - 1))
end_in_force None None = None

-- A search is to stop, of which this was heard, with this end, when the clock shows this: a line
-- `stop` waits, or the end that holds has passed.
abbrev pub IsToStop : Heard → Option ℕ → ℕ → Type 0
IsToStop heard end now = IsTrue heard.stop_waits ⊎ HasPassed (end_in_force end heard.left_at) now

-- How often the clock was asked behind a poll at which this was heard: once more where an end
-- holds, and no line `stop` has decided already.
abbrev pub asked_at : Heard → Option ℕ → ℕ → ℕ
asked_at heard end asks = if heard.stop_waits then asks else asked_for (end_in_force end heard.left_at) asks

-- The clock that a stop goes by.
abbrev pub clock_of : {C : Type 0} → HeardStop C → C
clock_of stop = stop.clock

-- What it listens to.
abbrev pub listener_of : {C : Type 0} → HeardStop C → Listener
listener_of stop = stop.listener

-- The end that it was armed for.
abbrev pub end_of : {C : Type 0} → HeardStop C → Option ℕ
end_of stop = stop.end

-- How often it was polled and signalled, at which poll last, and how it was armed.
abbrev pub heard_signal : {C : Type 0} → HeardStop C → Signal
heard_signal stop = record { polls = stop.polls; raised = stop.raised; last = stop.last; armed = stop.armed; arms = stop.arms; early = stop.early }
