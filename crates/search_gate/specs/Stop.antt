-- What a stop tells of itself: how often it was polled, how often it signalled, and at which poll
-- last; with what it was armed, how often, and behind how many polls. A count is of 64 bits and
-- stops at its last value, 2 ^ 64 - 1, where no rise can be told.
use Rattle.std.specs.Prelude.{◌+◌, ◌-◌, ◌^◌, ℕ, Bool, min, Option, if◌then◌else◌}

-- One more, up to the last value.
abbrev pub one_more : ℕ → ℕ
one_more count = min (count + 1) (2 ^ 64 - 1)

-- What a stop tells of itself: how often it was polled; how often it said then that a search is to
-- stop; at which poll it said so last, from 1 (nought, of the stops here, where it never did);
-- after how many milliseconds it was last armed to say so, if at all (none, of the stops here,
-- before it is armed); how often it was armed; and how often it had been polled when it was armed
-- last.
pub record Signal : Type 0 where
  pub polls : ℕ
  pub raised : ℕ
  pub last : ℕ
  pub armed : Option ℕ
  pub arms : ℕ
  pub early : ℕ

-- The stop once it is armed, to signal after so many milliseconds, or not by itself.
abbrev pub armed_with : Signal → Option ℕ → Signal
armed_with signal after_ms = record {
  polls = signal.polls;
  raised = signal.raised;
  last = signal.last;
  armed = after_ms;
  arms = one_more signal.arms;
  early = signal.polls;
}

-- The stop once it was polled, and said so whether a search is to stop.
abbrev pub polled : Signal → Bool → Signal
polled signal stops = record {
  polls = one_more signal.polls;
  raised = if stops then one_more signal.raised else signal.raised;
  last = if stops then one_more signal.polls else signal.last;
  armed = signal.armed;
  arms = signal.arms;
  early = signal.early;
}
