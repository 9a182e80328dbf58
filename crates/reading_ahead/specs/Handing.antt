-- What is handed on of the bytes that were read.
use Rattle.std.specs.Prelude.{◌≡◌, ◌≢◌, ◌<◌, ◌≤◌, ◌-◌, ℕ, List, All, take, length, slice_index}

-- These bytes are of one line: a line feed stands at their end, if anywhere.
abbrev pub IsOfOneLine : List ℕ → Type 0
IsOfOneLine bytes = All (λ byte. byte ≢ 10) (take (length bytes - 1) bytes)

-- So many bytes of the front of `from` are handed on, where there is place for so many: as far as
-- the first line feed, where one stands within the place, else as many as there are and as fit.
pub record IsFrontOf (from : List ℕ) (place count : ℕ) : Type 0 where
  pub there : count ≤ length from
  pub fits : count ≤ place
  pub some : 0 < length from → 0 < place → 0 < count
  pub one_line : IsOfOneLine (take count from)
  pub all : count < length from → count < place → slice_index from (count - 1) ≡ 10
