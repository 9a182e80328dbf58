-- The line of `shortest`, in clap's own terms.
use Rattle.std.specs.Prelude.{codes}
use Rattle.clap.specs.Words.{App, Rule, new_app, with_rule}
use Rattle.shortest_mate.specs.declared.search.TheConstants.{MOST_LIMIT}
use Rattle.tsume_words.specs.Options.{deadline_option, expansions_option, file_word, kif_flag, number_option, progress_flag, rest_flag}

-- The limit is 1 to 2,000 moves, and 50 where nothing is said.
abbrev pub limit_option : Rule
limit_option = number_option (codes "limit") 1 MOST_LIMIT (codes "50")

-- `shortest` has the limit, the expansions, of them 1,000,000 where nothing is said, the deadline,
-- the three flags and the file.
unfoldable pub shortest_line : App
shortest_line = with_rule
    (with_rule
    (with_rule
    (with_rule
    (with_rule
    (with_rule (with_rule (new_app (codes "shortest")) limit_option) (expansions_option (codes "1000000")))
    deadline_option)
    kif_flag)
    rest_flag)
    progress_flag)
    file_word
