-- For the functions of the crate alone: which of several evasions lasts longest.
use Rattle.std.specs.Prelude.{◌≡◌, ◌<◌, ◌≤◌, ◌⊎◌, Option, Some, None}
use Rattle.play_line.specs.declared.defence.Lasting.{Lasting}

-- The longest of the evasions so far, where one more comes after them: that one, where it is the
-- first or its rank is higher.
abbrev pub IsLonger : Option Lasting → Lasting → Lasting → Type 0
IsLonger None next longest = longest ≡ next
IsLonger (Some first) next longest = ((first.rank < next.rank) × (longest ≡ next)) ⊎ ((next.rank ≤ first.rank) × (longest ≡ first))
