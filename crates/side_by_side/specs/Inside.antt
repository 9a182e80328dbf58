-- What the private functions of this crate say of one another; no public clause cites these.
use Rattle.std.specs.Prelude.{◌<◌, ℕ, List, All, Option, None, IfSome, length, slice_index_or}
use Rattle.side_by_side.specs.declared.member.Made.{Made}

-- What was made of each number is an answer of its job.
abbrev pub AreMade : {A : Type 0} → (ℕ → A → Type 0) → List (Made A) → Type 0
AreMade IsAnswer made = All (λ one. IsAnswer one.number one.answer) made

-- What stands at a place, where something does, is an answer of the job of that number.
abbrev pub AreAnswersAt : {A : Type 0} → (ℕ → A → Type 0) → List (Option A) → Type 0
AreAnswersAt IsAnswer slots = (number : ℕ) → number < length slots → IfSome (slice_index_or slots number None) (IsAnswer number)
