-- The lines of a text, and those of a certificate among them.
use Rattle.std.specs.Prelude.{ℕ, ◌==◌, List, [], ◌∷◌, if◌then◌else◌}
use Rattle.std.specs.List.{onto_first}
use Rattle.collection_text.specs.Words.{is_end, tells_ending}

-- The lines of a text, each with the line feed that ends it; the last may have none.
abbrev pub whole_lines : List ℕ → List (List ℕ)
whole_lines [] = []
whole_lines (byte ∷ bytes) = if byte == 10 then (byte ∷ []) ∷ whole_lines bytes else onto_first byte (whole_lines bytes)

-- The lines of the certificate at the front of these lines: up to the line `end`, and with it; or,
-- where no such line comes before, up to where the next ending is told.
abbrev pub certificate_lines : List (List ℕ) → List (List ℕ)
certificate_lines [] = []
certificate_lines (line ∷ others) =
    if tells_ending line then [] else (if is_end line then line ∷ [] else line ∷ certificate_lines others)
