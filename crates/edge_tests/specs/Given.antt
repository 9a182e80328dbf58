-- What the tests' own clock tells of itself.
use Rattle.std.specs.Prelude.{ℕ}
use Rattle.edge_tests.specs.declared.given.Set.{Set}

-- What it last answered.
abbrev pub shown_last : Set → ℕ
shown_last clock = clock.shown

-- How often it was asked, up to 2 ^ 64 - 1.
abbrev pub times_asked : Set → ℕ
times_asked clock = clock.asks
