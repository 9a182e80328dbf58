-- What became of the stops that a run was given.
use Rattle.std.specs.Prelude.{◌≡◌, ℕ, List, Option, map}
use Rattle.search_gate.specs.Polls.{ArePolled}
use Rattle.search_gate.specs.Stop.{Signal, armed_with}

-- What the stops of a run tell of themselves, before and after.
pub record Signals : Type 0 where
  pub before : List Signal
  pub after : List Signal

-- What they tell, by what each of them tells.
abbrev pub signals : {A : Type 0} → (A → Signal) → List A → List A → Signals
signals signal before after = record { before = map signal before; after = map signal after }

-- The same from where each has been armed, for this deadline or for none.
abbrev pub once_armed : Option ℕ → Signals → Signals
once_armed deadline stops = record { before = map (λ signal. armed_with signal deadline) stops.before; after = stops.after }

-- A search with so many workers used the stops: each was armed once, for this deadline or for none,
-- before any was polled; then only its workers' were polled, of which there is one for each, from
-- the first on.
abbrev pub AreUsed : ℕ → Option ℕ → Signals → Type 0
AreUsed workers deadline stops = ArePolled workers (once_armed deadline stops).before stops.after

-- No stop was armed or polled.
abbrev pub AreUnused : Signals → Type 0
AreUnused stops = stops.after ≡ stops.before
