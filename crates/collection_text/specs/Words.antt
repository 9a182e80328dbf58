-- The words of a line that a collection printed, and what they tell.
use Rattle.std.specs.Prelude.{ℕ, ◌==◌, ◌||◌, ◌&&◌, nat_lt, Bool, not, List, [], ◌∷◌, Option, Some, None, codes, drop, length, if◌then◌else◌}
use Rattle.std.specs.List.{before_first, list_all}
use Rattle.std.specs.Str.{bytes_eq}
use Rattle.cert_text.specs.declared.head.Claim.{Claim}
use Rattle.cert_text.specs.declared.head.Claim.TheVariants.{Mate, Escape}
use Rattle.cert_text.specs.Text.{end_line}

-- A word ends before a space, a tab, with which a remark begins, or the end of its line.
abbrev pub ends_word : ℕ → Bool
ends_word byte = byte == 32 || byte == 9 || byte == 13 || byte == 10

-- The first word of a text.
abbrev pub word : List ℕ → List ℕ
word text = before_first ends_word text

-- The word behind one space; empty where no space comes first.
abbrev pub word_behind : List ℕ → List ℕ
word_behind [] = []
word_behind (byte ∷ bytes) = if byte == 32 then word bytes else []

-- The second word of a line, behind one space; empty where there is none.
abbrev pub second_word : List ℕ → List ℕ
second_word line = word_behind (drop (length (word line)) line)

-- A byte is a decimal digit.
abbrev pub is_digit : ℕ → Bool
is_digit byte = not (nat_lt byte 48) && not (nat_lt 57 byte)

-- A text is a number: digits, one at least.
abbrev pub is_number : List ℕ → Bool
is_number text = not (length text == 0) && list_all is_digit text

-- The verdict that an ending tells, as a certificate claims it; none where it tells none.
abbrev pub claim_of_ending : List ℕ → Option Claim
claim_of_ending ending = if bytes_eq ending (codes "mate") then Some Mate else (if bytes_eq ending (codes "nomate") then Some Escape else None)

-- The verdict that a line tells, whose first word is a number and whose second is `mate` or
-- `nomate`; none where the line is another.
abbrev pub claim_told : List ℕ → Option Claim
claim_told line = if is_number (word line) then claim_of_ending (second_word line) else None

-- A line tells how a problem ended, by its second word.
abbrev pub tells_ending : List ℕ → Bool
tells_ending line = bytes_eq (second_word line) (codes "mate") || bytes_eq (second_word line) (codes "nomate")
    || bytes_eq (second_word line) (codes "unknown") || bytes_eq (second_word line) (codes "fault")

-- The line is the last of a certificate.
abbrev pub is_end : List ℕ → Bool
is_end line = bytes_eq line end_line
