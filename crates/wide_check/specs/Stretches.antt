-- What the private functions of this crate say of one another; no public clause cites these.
use Rattle.std.specs.Prelude.{◌≡◌, ◌<◌, ◌+◌, ◌*◌, ◌-◌, ℕ, List, Option, Some, None, length, min, slice_get}
use Rattle.cert_text.specs.Kinds.{positions_in}
use Rattle.cert_check.specs.Hearing.{Case, IsFoundIn}
use Rattle.cert_check.specs.declared.hearing.Objection.{Objection}

-- Where a stretch of so many entries ends that begins at one of them: behind so many, or where the
-- entries end.
abbrev pub stretch_end : ℕ → ℕ → ℕ → ℕ
stretch_end from size count = from + min size (count - from)

-- What is found in the stretch of a number: among the entries from one on and before another, from
-- that number of stretches on.
abbrev pub IsFoundInStretch : Case → ℕ → ℕ → ℕ → ℕ → Option Objection → Type 0
IsFoundInStretch case from to size number found =
    IsFoundIn case.certificate case.problem.side (from + number * size) (stretch_end (from + number * size) size to) found

-- What is found among the entries of a case before one of them.
abbrev pub IsFoundBefore : Case → ℕ → Option Objection → Type 0
IsFoundBefore case to found = IsFoundIn case.certificate case.problem.side 0 to found

-- What is found among all entries of a case.
abbrev pub IsFoundInAll : Case → Option Objection → Type 0
IsFoundInAll case found = IsFoundBefore case (length (positions_in case.certificate)) found

-- The first that was found, in their order: nothing where each found nothing.
abbrev pub IsFirstOf : List (Option Objection) → Option Objection → Type 0
IsFirstOf found None = (number : ℕ) → number < length found → slice_get found number ≡ Some None
IsFirstOf found (Some objection) =
    (number : ℕ) × (slice_get found number ≡ Some (Some objection)) × ((sooner : ℕ) → sooner < number → slice_get found sooner ≡ Some None)
