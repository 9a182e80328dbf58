-- For the functions of the crate alone: the better of two entries.
use Rattle.std.specs.Prelude.{◌≡◌, ◌<◌, ◌≤◌, ◌⊎◌, Option, Some, None}
use Rattle.dominance_places.specs.declared.found.Best.{Best}

-- The best is one of the two and of no greater rank than either, of equal ranks the first; where
-- there is no first, the next.
abbrev pub IsBetter : Option Best → Best → Best → Type 0
IsBetter None next best = best ≡ next
IsBetter (Some first) next best = ((best ≡ first) × (first.rank ≤ next.rank)) ⊎ ((best ≡ next) × (next.rank < first.rank))
