-- The first line of an input, and what stands behind it.
use Rattle.std.specs.Prelude.{◌≡◌, ◌⊎◌, ℕ, List, [], ◌∷◌, ◌++◌}
use Rattle.cert_text.specs.Reading.{Lacks}

-- An input is cut at its first line feed into the line before it and the rest behind it; where it
-- has none, all of it is the line, and nothing the rest.
pub record IsCutAtFirstLine (input line rest : List ℕ) : Type 0 where
  pub is_line : Lacks 10 line
  pub parts : (input ≡ line ++ 10 ∷ rest) ⊎ ((input ≡ line) × (rest ≡ []))
