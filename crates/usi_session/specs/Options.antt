-- The options of a session, and the settings of a search that they make.
use Rattle.std.specs.Prelude.{ℕ, List, Option, Some, None, min, codes}
use Rattle.search_limits.specs.Sizes.{SettingsView, numbers_of}
use Rattle.search_limits.specs.declared.expansions.TheConstants.{MOST_EXPANSIONS}
use Rattle.search_limits.specs.declared.settings.TheConstants.{MOST_WORKERS, MOST_ROOM, LEAST_ROWS, MOST_ROWS, MOST_SHARDS, DEFAULT_SHARDS}
use Rattle.search_limits.specs.declared.faults.Setting.{Setting}
use Rattle.search_limits.specs.declared.faults.Setting.TheVariants.{Workers, Expansions, Room, Rows, Shards}
use Rattle.usi_session.specs.declared.options.TheConstants.{FIRST_ROWS}

-- The options of a session: the five numbers of a search; of the shards perhaps none is said.
pub record OptionsView : Type 0 where
  pub workers : ℕ
  pub expansions : ℕ
  pub room : ℕ
  pub rows : ℕ
  pub shards : Option ℕ

-- With which a session begins: one worker, as many visits and notes as there may be, 65,536 rows,
-- and nothing said of the shards.
abbrev pub first_options : OptionsView
first_options = record { workers = 1; expansions = MOST_EXPANSIONS; room = MOST_ROOM; rows = FIRST_ROWS; shards = None }

-- The options with this number in place of one of them.
abbrev pub with_option : Setting → ℕ → OptionsView → OptionsView
with_option Workers number options = record options { workers = number }
with_option Expansions number options = record options { expansions = number }
with_option Room number options = record options { room = number }
with_option Rows number options = record options { rows = number }
with_option Shards number options = record options { shards = Some number }

-- The shards of a table of so many rows: as many as were said, or else the lesser of 64 and the
-- rows.
abbrev pub shards_for : ℕ → Option ℕ → ℕ
shards_for its_rows None = min DEFAULT_SHARDS its_rows
shards_for its_rows (Some said) = said

-- The five numbers of a search by these options; its table lends.
abbrev pub numbers_by : OptionsView → SettingsView
numbers_by options = numbers_of options.workers options.expansions options.room options.rows (shards_for options.rows options.shards)

-- The name of an option.
abbrev pub setting_name : Setting → List ℕ
setting_name Workers = codes "Workers"
setting_name Expansions = codes "Expansions"
setting_name Room = codes "Room"
setting_name Rows = codes "Rows"
setting_name Shards = codes "Shards"

-- The number of an option in the settings of a search.
abbrev pub number_in : SettingsView → Setting → ℕ
number_in n Workers = n.workers
number_in n Expansions = n.expansions
number_in n Room = n.room
number_in n Rows = n.rows
number_in n Shards = n.shards

-- The least number of an option.
abbrev pub least_of : Setting → ℕ
least_of Workers = 1
least_of Expansions = 1
least_of Room = 1
least_of Rows = LEAST_ROWS
least_of Shards = 1

-- The greatest number of an option.
abbrev pub most_of : Setting → ℕ
most_of Workers = MOST_WORKERS
most_of Expansions = MOST_EXPANSIONS
most_of Room = MOST_ROOM
most_of Rows = MOST_ROWS
most_of Shards = MOST_SHARDS
