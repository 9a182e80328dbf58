-- How a text is written in lines, and what each line that is listed keeps.
use Rattle.std.specs.Prelude.{◌≡◌, ◌≢◌, ◌-◌, ℕ, Bool, true, false, List, [], ◌∷◌, ◌++◌, length, map, slice_index}
use Rattle.std.specs.List.{AllByRecursion}
use Rattle.problem_lines.specs.Lines.{NumberedLine, is_skipped, problems_among}

-- A line with its end: its bytes, and whether a carriage return stands before the line feed.
pub record Ended : Type 0 where
  pub line : List ℕ
  pub has_return : Bool

-- What ends a line.
abbrev pub line_end : Bool → List ℕ
line_end true = 13 ∷ 10 ∷ []
line_end false = 10 ∷ []

-- The text of lines with their ends, and of what stands behind the last end.
abbrev pub text_of : List Ended → List ℕ → List ℕ
text_of [] last = last
text_of (one ∷ others) last = one.line ++ (line_end one.has_return ++ text_of others last)

-- No line feed stands in the bytes.
abbrev pub HasNoFeed : List ℕ → Type 0
HasNoFeed bytes = AllByRecursion (λ byte. byte ≢ 10) bytes

-- The line has no line feed; and where a line feed alone ends it, it doesn't end with a carriage
-- return, which would belong to the end.
pub record IsEnded (one : Ended) : Type 0 where
  pub feedless : HasNoFeed one.line
  pub own : one.has_return ≡ false → slice_index one.line (length one.line - 1) ≢ 13

-- What stands behind the last end is a line, where it isn't nothing.
abbrev pub last_line : List ℕ → List (List ℕ)
last_line [] = []
last_line (byte ∷ bytes) = (byte ∷ bytes) ∷ []

-- However a text is written in lines, what is listed is which of these lines hold a problem,
-- counted from this number.
abbrev pub ListsWhatIsWritten : ℕ → List ℕ → List NumberedLine → Type 0
ListsWhatIsWritten first text listed = (ended : List Ended) (last : List ℕ) → AllByRecursion IsEnded ended → HasNoFeed last → text_of ended last ≡ text
    → listed ≡ problems_among first (map (λ one. one.line) ended ++ last_line last)

-- A remark begins with a tab, where it isn't empty.
abbrev pub IsRemark : List ℕ → Type 0
IsRemark [] = Unit {0}
IsRemark (byte ∷ bytes) = byte ≡ 9

-- What is listed isn't skipped; it is of one line, and has no tab; and its remark is of one line,
-- and begins with a tab.
pub record HoldsProblem (line : NumberedLine) : Type 0 where
  pub kept : is_skipped line.content ≡ false
  pub feedless : HasNoFeed line.content
  pub tabless : AllByRecursion (λ byte. byte ≢ 9) line.content
  pub feedless_remark : HasNoFeed line.remark
  pub tabbed : IsRemark line.remark
