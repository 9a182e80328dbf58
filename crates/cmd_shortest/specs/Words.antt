-- What the words of `shortest` ask for.
use Rattle.std.specs.Prelude.{List, codes}
use Rattle.clap.specs.Words.{Row}
use Rattle.search_limits.specs.declared.expansions.TheConstants.{MOST_EXPANSIONS}
use Rattle.shortest_mate.specs.declared.search.TheConstants.{MOST_LIMIT}
use Rattle.tsume_words.specs.declared.watch.TheConstants.{MOST_DEADLINE}
use Rattle.tsume_words.specs.Given.{HasFlag, HasNumber, HasNumberIfAny, file_of, form_of, number_of, watch_of}
use Rattle.tsume_words.specs.Meaning.{CommandMeaning, no_tests}
use Rattle.cmd_shortest.specs.Asked.{ShortestView}
use Rattle.cmd_shortest.specs.Line.{shortest_line}

-- What clap gives for `shortest`, each number in its range.
pub record IsForShortest (found : List Row) : Type 0 where
  pub limit : HasNumber (codes "limit") 1 MOST_LIMIT found
  pub expansions : HasNumber (codes "expansions") 1 MOST_EXPANSIONS found
  pub deadline : HasNumberIfAny (codes "deadline") 1 MOST_DEADLINE found
  pub kif : HasFlag (codes "kif") found
  pub rest : HasFlag (codes "rest") found
  pub progress : HasFlag (codes "progress") found

-- What is asked for, by what clap found for `shortest`.
abbrev pub shortest_of : List Row → ShortestView
shortest_of found = record {
  limit = number_of (codes "limit") found;
  expansions = number_of (codes "expansions") found;
  form = form_of found;
  watch = watch_of found;
}

-- What the words of `shortest` mean. There are no tests but clap's.
abbrev pub shortest_words : CommandMeaning ShortestView
shortest_words = record {
  line = shortest_line;
  IsGiven = IsForShortest;
  given = shortest_of;
  tests = no_tests;
  file = file_of;
}
