-- What clap gives for options, by its own meaning of the words.
use Rattle.std.specs.Prelude.{◌≡◌, ◌<◌, ◌^◌, ℕ, Bool, true, false, List, Option, Some, None, codes}
use Rattle.std.specs.Prelude.{◌⊎◌, min, IsSomeAnd, IfSome, option_map, if◌then◌else◌}
use Rattle.std.specs.Option.{option_map_or}
use Rattle.std.specs.Str.{bytes_eq}
use Rattle.std.specs.Str.Parse.{IsNumeral, digits_value, without_leading_plus}
use Rattle.clap.specs.Words.{IsUnsignedIn, Row, Text, first_of, one_of}
use Rattle.tsume_words.specs.declared.form.Format.{Format}
use Rattle.tsume_words.specs.declared.form.Format.TheVariants.{Sfen, Kif}
use Rattle.tsume_words.specs.declared.form.ProblemForm.{ProblemForm}
use Rattle.tsume_words.specs.declared.watch.Watch.{Watch}
use Rattle.search_limits.specs.Sizes.{SettingsView, numbers_of}
use Rattle.search_limits.specs.declared.settings.TheConstants.{MOST_ROOM, LEAST_ROWS, MOST_ROWS, MOST_SHARDS, DEFAULT_SHARDS}
use Rattle.search_limits.specs.declared.expansions.TheConstants.{MOST_EXPANSIONS}

-- The number that clap gives for an option: the one that the option's first text writes.
abbrev pub number_of : Text → List Row → ℕ
number_of name rows = option_map_or (λ text. digits_value 10 (without_leading_plus text)) (one_of name rows) 0

-- The number that clap gives for an option without a default: none where it isn't among the words.
abbrev pub number_if_given : Text → List Row → Option ℕ
number_if_given name rows = option_map (λ text. digits_value 10 (without_leading_plus text)) (one_of name rows)

-- The text that clap gives for an option without a default: none where it isn't among the words.
abbrev pub text_of : Text → List Row → Option Text
text_of name rows = first_of name rows

-- Whether clap found a flag among the words.
abbrev pub is_flagged : Text → List Row → Bool
is_flagged name rows = option_map_or (λ text. bytes_eq text (codes "true")) (one_of name rows) false

-- A word names a file, but for `-`, the standard input.
abbrev pub but_dash : Option Text → Option Text
but_dash None = None
but_dash (Some word) = if bytes_eq word (codes "-") then None else Some word

-- The file that the word FILE names, where there is one: none for the standard input.
abbrev pub file_of : List Row → Option Text
file_of found = but_dash (text_of (codes "file") found)

-- The parts of a table of so many rows: as many as are asked for, or else the lesser of 64 and the
-- rows.
abbrev pub shards_for : ℕ → Option ℕ → ℕ
shards_for its_rows None = min DEFAULT_SHARDS its_rows
shards_for its_rows (Some asked) = asked

-- The five numbers of a search by so many workers; clap gives the others, but for the shards where
-- nothing is said of them.
abbrev pub settings_by : ℕ → List Row → SettingsView
settings_by workers found = numbers_of workers (number_of (codes "expansions") found) (number_of (codes "room") found)
    (number_of (codes "rows") found) (shards_for (number_of (codes "rows") found) (number_if_given (codes "shards") found))

-- A problem is written as KIF where that is said, or else as SFEN.
abbrev pub format_where : Bool → Format
format_where true = Kif
format_where false = Sfen

-- The form of a problem, by the flags that clap found.
abbrev pub form_of : List Row → ProblemForm
form_of found = record {
  format = format_where (is_flagged (codes "kif") found);
  rest = is_flagged (codes "rest") found;
}

-- How a search is watched: after how many milliseconds it gives up, if at all; and whether the user
-- is told how far it has come.
pub record WatchView : Type 0 where
  pub deadline : Option ℕ
  pub progress : Bool

-- How a search is watched, in numbers.
abbrev pub watch_in : Watch → WatchView
watch_in w = record { deadline = w.deadline; progress = w.progress }

-- How the search is watched, by what clap found.
abbrev pub watch_of : List Row → WatchView
watch_of found = record {
  deadline = number_if_given (codes "deadline") found;
  progress = is_flagged (codes "progress") found;
}

-- Clap gives a number from low to high for the option of this name.
abbrev pub HasNumber : Text → ℕ → ℕ → List Row → Type 0
HasNumber name low high found = IsSomeAnd (one_of name found) (IsUnsignedIn low high)

-- Clap gives a number from low to high for the option of this name, if it gives one.
abbrev pub HasNumberIfAny : Text → ℕ → ℕ → List Row → Type 0
HasNumberIfAny name low high found = IfSome (one_of name found) (IsUnsignedIn low high)

-- Clap gives a number of 64 bits for the option of this name, if it gives one.
abbrev pub IsNumberIfAny : Text → List Row → Type 0
IsNumberIfAny name found = IfSome (one_of name found) (λ text. IsNumeral 10 (without_leading_plus text)
    × (digits_value 10 (without_leading_plus text) < 2 ^ 64))

-- Clap gives a number of 64 bits for the option of this name.
abbrev pub IsNumberGiven : Text → List Row → Type 0
IsNumberGiven name found = IsSomeAnd (one_of name found) (λ text. IsNumeral 10 (without_leading_plus text)
    × (digits_value 10 (without_leading_plus text) < 2 ^ 64))

-- Clap says of the flag of this name whether it was found.
abbrev pub HasFlag : Text → List Row → Type 0
HasFlag name found = (one_of name found ≡ Some (codes "true")) ⊎ (one_of name found ≡ Some (codes "false"))

-- What clap gives for a search, each number in its range; of the shards perhaps none.
pub record IsForSearch (found : List Row) : Type 0 where
  pub expansions : HasNumber (codes "expansions") 1 MOST_EXPANSIONS found
  pub room : HasNumber (codes "room") 1 MOST_ROOM found
  pub rows : HasNumber (codes "rows") LEAST_ROWS MOST_ROWS found
  pub shards : HasNumberIfAny (codes "shards") 1 MOST_SHARDS found
