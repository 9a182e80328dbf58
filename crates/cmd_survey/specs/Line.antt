-- The line of `survey`, in clap's own terms.
use Rattle.search_limits.specs.declared.many.TheConstants.{MOST_SEED, MOST_COUNT}
use Rattle.std.specs.Prelude.{codes}
use Rattle.clap.specs.Words.{App, Rule, new_app, with_rule}
use Rattle.tsume_words.specs.Options.{expansions_option, number_option}

-- The seed is 0 to 1,000,000,000, and 0 where nothing is said.
abbrev pub seed_option : Rule
seed_option = number_option (codes "seed") 0 MOST_SEED (codes "0")

-- The count is 1 to 10,000, and 100 where nothing is said.
abbrev pub count_option : Rule
count_option = number_option (codes "count") 1 MOST_COUNT (codes "100")

-- `survey` has the seed, the count, and the expansions, 10,000 where nothing is said. It reads no
-- file.
unfoldable pub survey_line : App
survey_line = with_rule (with_rule (with_rule (new_app (codes "survey")) seed_option) count_option) (expansions_option (codes "10000"))
