-- The line of `collection`, in clap's own terms.
use Rattle.std.specs.Prelude.{codes}
use Rattle.clap.specs.Words.{App, Rule, new_app, with_rule}
use Rattle.tsume_words.specs.Options.{deadline_option, expansions_option, file_word, flag_option, number_if_any_option, number_option, progress_flag, rest_flag, room_option, rows_option, shards_option}
use Rattle.cmd_collection.specs.declared.form.TheConstants.{MOST_FIRST, MOST_THREADS}

-- The threads are 1 to 64, and have no default.
abbrev pub threads_option : Rule
threads_option = number_if_any_option (codes "threads") 1 MOST_THREADS

-- The number of the text's first line is 1 to 1,000,000,000, and 1 where nothing is said.
abbrev pub first_option : Rule
first_option = number_option (codes "first") 1 MOST_FIRST (codes "1")

-- The flag that remarks are told.
abbrev pub remarks_flag : Rule
remarks_flag = flag_option (codes "remarks")

-- The flag that certificates are told.
abbrev pub certificates_flag : Rule
certificates_flag = flag_option (codes "certificates")

-- `collection` has four numbers, of them 100,000 expansions where nothing is said, the threads, the
-- deadline, the first line's number, its four flags and the file.
unfoldable pub collection_line : App
collection_line = with_rule
    (with_rule
    (with_rule
    (with_rule
    (with_rule
    (with_rule
    (with_rule
    (with_rule
    (with_rule
    (with_rule
    (with_rule (with_rule (new_app (codes "collection")) (expansions_option (codes "100000"))) room_option)
    rows_option)
    shards_option)
    threads_option)
    deadline_option)
    first_option)
    rest_flag)
    certificates_flag)
    remarks_flag)
    progress_flag)
    file_word
