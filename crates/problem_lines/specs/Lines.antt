-- The lines of a collection of problems, and which of them hold one.
use Rattle.std.specs.Prelude.{ℕ, ◌==◌, ◌||◌, nat_eq, nat_lt, Bool, not, List, [], ◌∷◌, drop, length, filter, map}
use Rattle.std.specs.List.{before_first, enumerate_from, list_all, starts_with}
use Rattle.std.specs.Str.Lines.{lines}
use Rattle.problem_lines.specs.declared.line.Line.{Line}
use Rattle.problem_lines.specs.declared.line.TheConstants.{MOST_PROBLEM_BYTES}

-- A line that holds a problem: its number, the bytes of the problem, those of its remark, and
-- whether the line is too long.
pub record NumberedLine : Type 0 where
  pub number : ℕ
  pub content : List ℕ
  pub remark : List ℕ
  pub is_too_long : Bool

-- A line without its remark, which begins with the first tab.
abbrev pub without_remark : List ℕ → List ℕ
without_remark line = before_first (λ byte. byte == 9) line

-- The remark of a line, its tab among it: all that stands behind what is without it.
abbrev pub remark_of : List ℕ → List ℕ
remark_of line = drop (length (without_remark line)) line

-- Whether a line without its remark is skipped: it is empty or holds spaces alone, or it begins
-- with `#`.
abbrev pub is_skipped : List ℕ → Bool
is_skipped content = list_all (λ byte. byte == 32) content || starts_with nat_eq content (35 ∷ [])

-- Whether a line holds a problem.
abbrev pub is_problem : List ℕ → Bool
is_problem line = not (is_skipped (without_remark line))

-- Whether a line, which stands behind its number, holds a problem.
abbrev pub holds_problem : ℕ × List ℕ → Bool
holds_problem line = is_problem line.1

-- A line that holds a problem, with its number. It is too long where it has more bytes than a
-- problem may, its remark among them.
abbrev pub numbered_line : ℕ × List ℕ → NumberedLine
numbered_line line = record {
  number = line.0;
  content = without_remark line.1;
  remark = remark_of line.1;
  is_too_long = nat_lt MOST_PROBLEM_BYTES (length line.1);
}

-- Those of some lines that hold a problem, where the lines are numbered from here on.
unfoldable pub problems_among : ℕ → List (List ℕ) → List NumberedLine
problems_among first all = map numbered_line (filter holds_problem (enumerate_from first all))

-- The lines of a text that hold a problem. A line feed ends a line, and a carriage return before it
-- doesn't count; the last line may end with the text. Lines count from this number.
abbrev pub problem_lines : ℕ → List ℕ → List NumberedLine
problem_lines first text = problems_among first (lines text)

-- A line as it is given to the caller.
abbrev pub seen : Line → NumberedLine
seen line = record {
  number = line.number;
  content = line.content.now;
  remark = line.remark.now;
  is_too_long = line.is_too_long;
}
