-- The kinds of options that commands have, and those that several have, in clap's own terms.
use Rattle.search_limits.specs.declared.settings.TheConstants.{MOST_ROOM, LEAST_ROWS, MOST_ROWS, MOST_SHARDS}
use Rattle.tsume_words.specs.declared.watch.TheConstants.{MOST_DEADLINE}
use Rattle.search_limits.specs.declared.expansions.TheConstants.{MOST_EXPANSIONS}
use Rattle.std.specs.Prelude.{ℕ, [], ◌∷◌, Some, codes}
use Rattle.clap.specs.Words.{Rule, Text, new_rule}
use Rattle.clap.specs.declared.builder.action.ArgAction.TheVariants.{Set, SetTrue}
use Rattle.clap.specs.declared.builder.value_parser.ValueParser.TheVariants.{Unsigned}

-- An option `--name N` takes a number from low to high, and has its default where it isn't given.
abbrev pub number_option : Text → ℕ → ℕ → Text → Rule
number_option name low high default = record (new_rule name) {
  long = Some name;
  action = Some Set;
  value_names = 1;
  defaults = default ∷ [];
  parser = Some (Unsigned low high);
}

-- An option `--name N` takes a number from low to high, and has no default.
abbrev pub number_if_any_option : Text → ℕ → ℕ → Rule
number_if_any_option name low high = record (new_rule name) {
  long = Some name;
  action = Some Set;
  value_names = 1;
  parser = Some (Unsigned low high);
}

-- An option `--name TEXT` takes any text, and has no default.
abbrev pub text_option : Text → Rule
text_option name = record (new_rule name) {
  long = Some name;
  action = Some Set;
  value_names = 1;
}

-- A flag `--name` takes no value.
abbrev pub flag_option : Text → Rule
flag_option name = record (new_rule name) {
  long = Some name;
  action = Some SetTrue;
}

-- The word FILE may be any.
abbrev pub file_word : Rule
file_word = record (new_rule (codes "file")) {
  action = Some Set;
  value_names = 1;
}

-- The expansions are 1 to 1,000,000,000, and each command has a default of its own.
abbrev pub expansions_option : Text → Rule
expansions_option default = number_option (codes "expansions") 1 MOST_EXPANSIONS default

-- The room is 1 to 1,000,000,000 notes, and the most where nothing is said.
abbrev pub room_option : Rule
room_option = number_option (codes "room") 1 MOST_ROOM (codes "1000000000")

-- The rows are 16 to 16,777,216, and 65,536 where nothing is said.
abbrev pub rows_option : Rule
rows_option = number_option (codes "rows") LEAST_ROWS MOST_ROWS (codes "65536")

-- The shards are 1 to 256, and have no default.
abbrev pub shards_option : Rule
shards_option = number_if_any_option (codes "shards") 1 MOST_SHARDS

-- The deadline is 1 to 86,400,000 milliseconds, and has no default.
abbrev pub deadline_option : Rule
deadline_option = number_if_any_option (codes "deadline") 1 MOST_DEADLINE

-- The flag that the user is told how far the search has come.
abbrev pub progress_flag : Rule
progress_flag = flag_option (codes "progress")

-- The flag that the text is the diagram of a KIF file.
abbrev pub kif_flag : Rule
kif_flag = flag_option (codes "kif")

-- The flag that the defender is given the rest of the pieces.
abbrev pub rest_flag : Rule
rest_flag = flag_option (codes "rest")
