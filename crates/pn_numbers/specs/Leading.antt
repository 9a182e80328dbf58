-- What is known of the selecting numbers of the first children while they are looked at: it serves
-- private functions alone.
use Rattle.std.specs.Prelude.{◌≡◌, ◌≢◌, ◌<◌, ◌≤◌, ℕ, Option, Some, None}
use Rattle.pn_numbers.specs.declared.selecting.Lead.{Lead}

-- Of the numbers at the first places that aren't at this one, the second is the least.
abbrev pub IsSecond : (ℕ → Option ℕ) → ℕ → ℕ → Option ℕ → Type 0
IsSecond numbers seen place None = (other number : ℕ) → other < seen → numbers other ≡ Some number → other ≡ place
IsSecond numbers seen place (Some second) =
    ((other number : ℕ) → other < seen → other ≢ place → numbers other ≡ Some number → second ≤ number)
    × ((other : ℕ) × (other < seen) × (other ≢ place) × (numbers other ≡ Some second))

-- Of the numbers at the first places the least is this, first at this place, and the second is the
-- least of the others.
pub record IsLead (numbers : ℕ → Option ℕ) (seen place least : ℕ) (second : Option ℕ) : Type 0 where
  pub there : place < seen
  pub has : numbers place ≡ Some least
  pub none_less : (other number : ℕ) → other < seen → numbers other ≡ Some number → least ≤ number
  pub first : (other number : ℕ) → other < place → numbers other ≡ Some number → least < number
  pub others : IsSecond numbers seen place second

-- The lead of the numbers at the first places; none where there is no number.
abbrev pub IsLeading : (ℕ → Option ℕ) → ℕ → Option Lead → Type 0
IsLeading numbers seen None = (other : ℕ) → other < seen → numbers other ≡ None
IsLeading numbers seen (Some lead) = IsLead numbers seen lead.place lead.least lead.second
