-- The line of `check`, in clap's own terms.
use Rattle.std.specs.Prelude.{codes}
use Rattle.clap.specs.Words.{App, Rule, new_app, with_rule}
use Rattle.search_limits.specs.declared.settings.TheConstants.{MOST_WORKERS}
use Rattle.tsume_words.specs.Options.{file_word, flag_option, number_if_any_option, progress_flag, text_option}

-- The workers that check are 1 to 64, and have no default.
abbrev pub workers_option : Rule
workers_option = number_if_any_option (codes "workers") 1 MOST_WORKERS

-- The option `--problem SFEN` takes any text, and has no default.
abbrev pub problem_option : Rule
problem_option = text_option (codes "problem")

-- The flag that the text has a bound behind its certificate, or a bound alone.
abbrev pub bound_flag : Rule
bound_flag = flag_option (codes "bound")

-- The flag that the text is what a collection printed with certificates.
abbrev pub collection_flag : Rule
collection_flag = flag_option (codes "collection")

-- `check` has the workers, the problem, the three flags and the file.
unfoldable pub check_line : App
check_line = with_rule
    (with_rule
    (with_rule
    (with_rule (with_rule (with_rule (new_app (codes "check")) workers_option) problem_option) bound_flag)
    collection_flag)
    progress_flag)
    file_word
