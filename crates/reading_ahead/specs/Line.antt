-- The lines that are heard ahead: `stop` and `quit`, perhaps with a carriage return behind.
use Rattle.std.specs.Prelude.{◌≡◌, ◌==◌, ◌⊎◌, ℕ, List, [], ◌∷◌, ◌++◌, length, nat_lt, Option, Some, None, codes, if◌then◌else◌}

-- The word `stop`.
abbrev pub stop_word : List ℕ
stop_word = codes "stop"

-- The word `quit`.
abbrev pub quit_word : List ℕ
quit_word = codes "quit"

-- A line is this word, but for a carriage return at its end.
abbrev pub IsWord : List ℕ → List ℕ → Type 0
IsWord word line = (line ≡ word) ⊎ (line ≡ word ++ 13 ∷ [])

-- A line, as far as it came, with one byte more; it is none once it is longer than five bytes,
-- since no such line is heard.
abbrev pub longer : Option (List ℕ) → ℕ → Option (List ℕ)
longer None byte = None
longer (Some bytes) byte = if nat_lt (length bytes) 5 then Some (bytes ++ byte ∷ []) else None

-- The line as far as it came, once this byte has come: a line feed begins the next one.
abbrev pub line_after : Option (List ℕ) → ℕ → Option (List ℕ)
line_after line byte = if byte == 10 then Some [] else longer line byte

-- The line that came so far is this word, if it ends here.
abbrev pub IsSaidAt : Option (List ℕ) → List ℕ → Type 0
IsSaidAt None word = ⊥
IsSaidAt (Some line) word = IsWord word line
