-- The counts of a row as they stand.
use Rattle.std.specs.Prelude.{◌≡◌, ℕ, List, slice_index}

-- The slot has so many workers below.
abbrev pub TellsCount : List ℕ → ℕ → ℕ → Type 0
TellsCount counts slot count = count ≡ slice_index counts slot
