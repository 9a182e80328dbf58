-- Lines, and what is given of an input one line after the other.
use Rattle.std.specs.Prelude.{◌≡◌, ◌≢◌, ◌⊎◌, ◌+◌, ◌≤◌, ◌++◌, ◌∷◌, [], ℕ, List, Option, length, option_map}
use Rattle.std.specs.List.{AllByRecursion}
use Rattle.tsume_io.specs.Source.{Took, IsAtEnd}
use Rattle.input_lines.specs.declared.lines.TheConstants.{MOST_LINE_BYTES, MOST_INPUT_BYTES}

-- 1. LINES.

-- No byte is a line feed.
abbrev pub HasNoFeed : List ℕ → Type 0
HasNoFeed bytes = AllByRecursion (λ byte. byte ≢ 10) bytes

-- A line has no line feed, and so many bytes at most.
pub record IsLine (line : List ℕ) : Type 0 where
  pub no_feed : HasNoFeed line
  pub within : length line ≤ MOST_LINE_BYTES

-- 2. WHERE A READING STANDS.

-- Where a reading of lines stands: how many bytes of the input were given, and those to come, where
-- the source tells them.
pub record Place : Type 0 where
  pub given : ℕ
  pub to_come : Option (List ℕ)

-- The beginning of an input.
abbrev pub beginning : Option (List ℕ) → Place
beginning told = record { given = 0; to_come = told }

-- What a reader of lines shows: the bytes that it has read and not given yet, and how many it has
-- given.
pub record LinesView : Type 0 where
  pub ahead : List ℕ
  pub given : ℕ

-- Before the first read.
abbrev pub first_lines : LinesView
first_lines = record { ahead = []; given = 0 }

-- Where a reader of lines stands: to come are the bytes ahead, and behind them those that its
-- source has left.
abbrev pub place_of : LinesView → Option (List ℕ) → Place
place_of lines left = record { given = lines.given; to_come = option_map (λ rest. lines.ahead ++ rest) left }

-- These bytes were given, from the front of what was to come.
pub record Gave (before after : Place) (bytes : List ℕ) : Type 0 where
  pub took : Took before.to_come after.to_come bytes
  pub counted : after.given ≡ before.given + length bytes

-- Nothing is to come.
abbrev pub IsOver : Place → Type 0
IsOver place = IsAtEnd place.to_come

-- A byte is to come.
pub record HasMore (place : Place) : Type 0 where
  pub byte : ℕ
  pub after : Option (List ℕ)
  pub took : Took place.to_come after (byte ∷ [])

-- 3. WHAT IS GIVEN.

-- What is given for a line: the line and its line feed; or the line alone, which has a byte, where
-- the input is over behind it.
abbrev pub IsGivenFor : List ℕ → Place → List ℕ → Type 0
IsGivenFor line after bytes = (bytes ≡ line ++ 10 ∷ []) ⊎ ((bytes ≡ line) × (line ≢ []) × IsOver after)

-- A line was given, and no more bytes so far than an input may have.
pub record IsLineGiven (before after : Place) (line : List ℕ) : Type 0 where
  pub is_line : IsLine line
  pub within : after.given ≤ MOST_INPUT_BYTES
  pub bytes : List ℕ
  pub for_line : IsGivenFor line after bytes
  pub gave : Gave before after bytes

-- Lines were given one after the other.
abbrev pub AreLinesGiven : Place → List (List ℕ) → Place → Type 0
AreLinesGiven before [] after = after ≡ before
AreLinesGiven before (line ∷ lines) after = (between : Place) × IsLineGiven before between line × AreLinesGiven between lines after

-- Bytes without a line feed were given, and there is one more, which is one too many: they are as
-- many as a line may have, and it is no line feed; or the input has as many before it as it may.
pub record IsTooLong (before : Place) : Type 0 where
  pub line : List ℕ
  pub no_feed : HasNoFeed line
  pub between : Place
  pub gave : Gave before between line
  pub more : HasMore between
  pub full : ((length line ≡ MOST_LINE_BYTES) × (more.byte ≢ 10)) ⊎ (between.given ≡ MOST_INPUT_BYTES)
