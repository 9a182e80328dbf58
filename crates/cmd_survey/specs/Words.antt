-- What the words of `survey` ask for.
use Rattle.std.specs.Prelude.{ℕ, List, None, codes}
use Rattle.clap.specs.Words.{Row}
use Rattle.search_limits.specs.declared.many.TheConstants.{MOST_SEED, MOST_COUNT}
use Rattle.search_limits.specs.declared.expansions.TheConstants.{MOST_EXPANSIONS}
use Rattle.tsume_words.specs.Given.{HasNumber, number_of}
use Rattle.tsume_words.specs.Meaning.{CommandMeaning, no_tests}
use Rattle.cmd_survey.specs.declared.words.SurveyRange.{SurveyRange}
use Rattle.cmd_survey.specs.Line.{survey_line}

-- Which of the problems that the generator makes are solved: from which number on, how many, and
-- with how many expansions each.
pub record SurveyView : Type 0 where
  pub seed : ℕ
  pub count : ℕ
  pub expansions : ℕ

-- Which problems are surveyed, in numbers.
abbrev pub survey_in : SurveyRange → SurveyView
survey_in r = record { seed = r.seed; count = r.count; expansions = r.expansions.count }

-- What clap gives for `survey`, each number in its range.
pub record IsForSurvey (found : List Row) : Type 0 where
  pub seed : HasNumber (codes "seed") 0 MOST_SEED found
  pub count : HasNumber (codes "count") 1 MOST_COUNT found
  pub expansions : HasNumber (codes "expansions") 1 MOST_EXPANSIONS found

-- The numbers that clap gives for `survey`.
abbrev pub survey_of : List Row → SurveyView
survey_of found = record {
  seed = number_of (codes "seed") found;
  count = number_of (codes "count") found;
  expansions = number_of (codes "expansions") found;
}

-- What the words of `survey` mean. There are no tests but clap's, and it reads nothing.
abbrev pub survey_words : CommandMeaning SurveyView
survey_words = record {
  line = survey_line;
  IsGiven = IsForSurvey;
  given = survey_of;
  tests = no_tests;
  file = λ found. None;
}
