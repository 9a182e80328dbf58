-- What a cook report says: a line for each first check, and a word for them all.
use Rattle.std.specs.Prelude.{ℕ, List, Bool, true, false, nat_lt, count_by, if◌then◌else◌}
use Rattle.board_core.specs.declared.moves.Move.{Move}
use Rattle.cook_report.specs.declared.report.Line.{Line}
use Rattle.cook_report.specs.declared.report.Line.TheVariants.{Mate, Escape, Unknown}
use Rattle.cook_report.specs.declared.word.Word.{Word}
use Rattle.cook_report.specs.declared.word.Word.TheVariants.{Sound, Cooked, Open, NoMate}

-- The first check of which a line speaks.
abbrev pub check_of : Line → Move
check_of (Mate check c) = check
check_of (Escape check evasion c) = check
check_of (Unknown check evasion cause) = check

-- The line says that its check mates.
abbrev pub says_mate : Line → Bool
says_mate (Mate check c) = true
says_mate (Escape check evasion c) = false
says_mate (Unknown check evasion cause) = false

-- The line says that it isn't known whether its check mates.
abbrev pub says_unknown : Line → Bool
says_unknown (Mate check c) = false
says_unknown (Escape check evasion c) = false
says_unknown (Unknown check evasion cause) = true

-- The word for so many mates and so many unknown: cooked where two or more are mates, else open
-- where one is unknown, else sound where one is a mate, else no mate.
abbrev pub word_by : ℕ → ℕ → Word
word_by mates unknown =
    if nat_lt 1 mates then Cooked
    else (if nat_lt 0 unknown then Open
    else (if nat_lt 0 mates then Sound
    else NoMate))

-- The word of the lines.
abbrev pub word_of : List Line → Word
word_of lines = word_by (count_by says_mate lines) (count_by says_unknown lines)
