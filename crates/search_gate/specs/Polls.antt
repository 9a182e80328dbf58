-- What becomes of a stop that is polled, and of the stops of several workers.
use Rattle.std.specs.Prelude.{◌≡◌, ◌<◌, ◌≤◌, ◌+◌, ◌-◌, ◌^◌, ℕ, zero, suc, List, [], ◌∷◌}
use Rattle.search_gate.specs.Stop.{Signal}

-- A stop was polled, any number of times, and not armed.
pub record IsPolled (before after : Signal) : Type 0 where
  pub armed : after.armed ≡ before.armed
  pub arms : after.arms ≡ before.arms
  pub early : after.early ≡ before.early

-- A stop was polled and not armed; and, as far as polls are counted, at least once for each
-- expansion that was made, of so many before and so many after.
pub record IsPolledForEach (made made_after : ℕ) (before after : Signal) : Type 0 where
  pub polled : IsPolled before after
  pub each : after.polls < 2 ^ 64 - 1 → before.polls + made_after ≤ after.polls + made

-- As many of the stops were polled, from the first on, as there are workers; those beyond are as
-- they were.
abbrev pub ArePolled : ℕ → List Signal → List Signal → Type 0
ArePolled zero before after = after ≡ before
ArePolled (suc workers) [] after = after ≡ []
ArePolled (suc workers) (old ∷ before) [] = ⊥
ArePolled (suc workers) (old ∷ before) (new ∷ after) = IsPolled old new × ArePolled workers before after
