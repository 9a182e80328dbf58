-- What a source or a sink shows of a run.
use Rattle.std.specs.Prelude.{◌≡◌, ℕ, List, Option}

-- What one side of the outside shows, before and after: the bytes that it tells, where it tells
-- them (those that a source has left, or a sink has kept), and how often it has failed.
pub record Shown : Type 0 where
  pub told : Option (List ℕ)
  pub told_after : Option (List ℕ)
  pub faults : ℕ
  pub faults_after : ℕ

-- What a source or a sink shows, by what it tells and by its count of faults.
abbrev pub shown : {A : Type 0} → (A → Option (List ℕ)) → (A → ℕ) → A → A → Shown
shown told faults before after = record {
  told = told before;
  told_after = told after;
  faults = faults before;
  faults_after = faults after;
}

-- None of its calls failed: the count of faults is as it was.
abbrev pub NeverFailed : Shown → Type 0
NeverFailed s = s.faults_after ≡ s.faults

-- Nothing was read of it, or written to it, as far as it tells its bytes, and no call failed.
pub record IsUntouched (s : Shown) : Type 0 where
  pub told : s.told_after ≡ s.told
  pub faults : NeverFailed s
