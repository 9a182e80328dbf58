-- What a read does to the bytes that a source has left. They are `None` where the source doesn't
-- tell them; of these nothing is said, but that they still aren't told.
use Rattle.std.specs.Prelude.{◌≡◌, ℕ, ◌+◌, ◌<◌, ◌≤◌, List, [], ◌++◌, length, Option, None, Some}

-- These bytes were taken from the front of those that were left, and no others. What was told is
-- still told, what wasn't isn't.
abbrev pub Took : Option (List ℕ) → Option (List ℕ) → List ℕ → Type 0
Took None None taken = Unit {0}
Took (Some before) (Some after) taken = before ≡ taken ++ after
Took None (Some after) taken = ⊥
Took (Some before) None taken = ⊥

-- No byte is left.
abbrev pub IsAtEnd : Option (List ℕ) → Type 0
IsAtEnd None = Unit {0}
IsAtEnd (Some bytes) = bytes ≡ []

-- These bytes are all that were left, and none is left now.
abbrev pub TookAll : Option (List ℕ) → Option (List ℕ) → List ℕ → Type 0
TookAll None None taken = Unit {0}
TookAll (Some before) (Some after) taken = (taken ≡ before) × (after ≡ [])
TookAll None (Some after) taken = ⊥
TookAll (Some before) None taken = ⊥

-- No more than `limit` bytes were taken.
abbrev pub TookAtMost : ℕ → Option (List ℕ) → Option (List ℕ) → Type 0
TookAtMost limit before after = (taken : List ℕ) × (length taken ≤ limit) × Took before after taken

-- One byte more than `limit` was taken.
abbrev pub TookOneMoreThan : ℕ → Option (List ℕ) → Option (List ℕ) → Type 0
TookOneMoreThan limit before after = (taken : List ℕ) × (length taken ≡ limit + 1) × Took before after taken

-- More than `limit` bytes are left.
abbrev pub HasMoreThan : ℕ → Option (List ℕ) → Type 0
HasMoreThan limit None = Unit {0}
HasMoreThan limit (Some bytes) = limit < length bytes
