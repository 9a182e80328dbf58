-- The line of `solve`, and of what is asked the same, in clap's own terms.
use Rattle.std.specs.Prelude.{codes}
use Rattle.clap.specs.Words.{App, Rule, new_app, with_rule}
use Rattle.search_limits.specs.declared.settings.TheConstants.{MOST_WORKERS}
use Rattle.tsume_words.specs.Options.{deadline_option, expansions_option, file_word, flag_option, kif_flag, number_option, progress_flag, rest_flag, room_option, rows_option, shards_option}

-- The workers are 1 to 64, and 1 where nothing is said.
abbrev pub workers_option : Rule
workers_option = number_option (codes "workers") 1 MOST_WORKERS (codes "1")

-- A line with what `solve` is asked: the five numbers, of them 1,000,000 expansions where nothing
-- is said, the deadline, the three flags and the file.
abbrev pub with_search : App → App
with_search line = with_rule
    (with_rule
    (with_rule
    (with_rule
    (with_rule
    (with_rule
    (with_rule
    (with_rule
    (with_rule (with_rule line workers_option) (expansions_option (codes "1000000")))
    room_option)
    rows_option)
    shards_option)
    deadline_option)
    kif_flag)
    rest_flag)
    progress_flag)
    file_word

-- The flag that a library stands behind the problem.
abbrev pub library_flag : Rule
library_flag = flag_option (codes "library")

-- `solve` has that flag, and what is asked of a search.
unfoldable pub solve_line : App
solve_line = with_search (with_rule (new_app (codes "solve")) library_flag)
