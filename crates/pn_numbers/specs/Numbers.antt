-- What numbers a node has.
use Rattle.std.specs.Prelude.{◌≡◌, ◌≤◌, ◌⊎◌}
use Rattle.pn_numbers.specs.declared.numbers.Numbers.{Numbers}
use Rattle.pn_numbers.specs.declared.numbers.TheConstants.{CAP, INFINITE}

-- The node is proved: nothing is left to prove, and it can't be disproved.
pub record IsProved (numbers : Numbers) : Type 0 where
  pub pn : numbers.pn ≡ 0
  pub dn : numbers.dn ≡ INFINITE

-- The node is disproved.
pub record IsDisproved (numbers : Numbers) : Type 0 where
  pub pn : numbers.pn ≡ INFINITE
  pub dn : numbers.dn ≡ 0

-- The node is neither: both numbers are from 1 to the cap.
pub record IsOpen (numbers : Numbers) : Type 0 where
  pub least_pn : 1 ≤ numbers.pn
  pub most_pn : numbers.pn ≤ CAP
  pub least_dn : 1 ≤ numbers.dn
  pub most_dn : numbers.dn ≤ CAP

-- The numbers are those of a node: proved, disproved, or open.
abbrev pub IsNumbers : Numbers → Type 0
IsNumbers numbers = IsProved numbers ⊎ (IsDisproved numbers ⊎ IsOpen numbers)
