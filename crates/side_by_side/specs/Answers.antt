-- The answers of jobs.
use Rattle.std.specs.Prelude.{◌≡◌, ℕ, List, Some, length, slice_get}

-- One answer for each of so many jobs, in the order of their numbers, and each means what an answer
-- of its job means.
pub record AreAnswers {A : Type 0} (count : ℕ) (IsAnswer : ℕ → A → Type 0) (answers : List A) : Type 0 where
  pub all : length answers ≡ count
  pub each : (number : ℕ) (answer : A) → slice_get answers number ≡ Some answer → IsAnswer number answer
