-- Which lines of a KIF text count as its moves.
use Rattle.std.specs.Prelude.{◌+◌, ◌==◌, ◌||◌, ℕ, List, [], ◌∷◌, length, drop, filter, take_while, Bool, false, not, Option, Some, None}
use Rattle.std.specs.Str.{chars}
use Rattle.std.specs.Str.Lines.{lines}
use Rattle.kif_text.specs.Lines.{begins, without_mark}
use Rattle.kif_text.specs.Reading.{header_of}
use Rattle.kif_moves.specs.Words.{behind_number, is_ending}

-- A line with its number.
pub record Line : Type 0 where
  pub number : ℕ
  pub text : List ℕ

-- Lines with their numbers, counted on from the first one's.
abbrev pub numbered : ℕ → List (List ℕ) → List Line
numbered first [] = []
numbered first (text ∷ rest) = record { number = first; text = text } ∷ numbered (first + 1) rest

-- Whether a line is passed over: an empty one, a comment, a bookmark.
abbrev pub is_skipped : List ℕ → Bool
is_skipped line = length line == 0 || (begins line "#" || (begins line "*" || begins line "&"))

-- Whether the word behind a line's number ends the moves.
abbrev pub has_ending : Option (List ℕ) → Bool
has_ending None = false
has_ending (Some word) = is_ending word

-- Whether a line ends the moves: the result, another line of play, or a number and the word for it.
abbrev pub is_end : List ℕ → Bool
is_end line = begins line "まで" || (begins line "変化：" || has_ending (behind_number (chars line)))

-- Those of some lines that count: all but the skipped ones, up to the one that ends the moves.
unfoldable pub counted : List Line → List Line
counted list = take_while (λ line. not (is_end line.text)) (filter (λ line. not (is_skipped line.text)) list)

-- The lines of the moves: those behind the first that begins with `手数----`. Lines count from 1.
-- Where there is no such line, there are no moves.
abbrev pub move_lines : List ℕ → List Line
move_lines input = counted (numbered (length (header_of input) + 2) (drop (length (header_of input) + 1) (lines (without_mark input))))
