-- A text that goes up to its first line `end`, as each of several certificates in one text does.
use Rattle.std.specs.Prelude.{◌≡◌, ◌≢◌, ◌⊎◌, ℕ, List, [], ◌++◌, codes}
use Rattle.std.specs.List.{AllByRecursion, flat_map}
use Rattle.cert_text.specs.Entries.{line}
use Rattle.cert_text.specs.Text.{end_line}
use Rattle.cert_text.specs.Reading.{Lacks}

-- A line other than `end`, without its line feed.
abbrev pub IsOther : List ℕ → Type 0
IsOther text = Lacks 10 text × (text ≢ codes "end")

-- The text begins with these lines, and then comes the line `end`, with which it ends.
abbrev pub EndsAtEnd : List (List ℕ) → List ℕ → Type 0
EndsAtEnd others text = text ≡ flat_map line others ++ end_line

-- The text begins with these lines, no further line comes, and nothing comes behind the text.
abbrev pub LacksEnd : List (List ℕ) → List ℕ → List ℕ → Type 0
LacksEnd others text rest = (last : List ℕ) × Lacks 10 last × (text ≡ flat_map line others ++ last) × (rest ≡ [])

-- The text goes up to and with its first line `end`, and the rest comes behind it; or it has no
-- such line, and nothing comes behind it.
pub record IsUpToEnd (text rest : List ℕ) : Type 0 where
  pub others : List (List ℕ)
  pub none_is_end : AllByRecursion IsOther others
  pub ends : EndsAtEnd others text ⊎ LacksEnd others text rest
