-- What clap gives for `survey` where it takes the words behind the command's name.
use Rattle.std.proofs.Common.{refl, List, []}
use Rattle.clap.specs.Walk.{Text, nothing_held, rows_after}
use Rattle.search_limits.specs.declared.many.TheConstants.{MOST_SEED, MOST_COUNT}
use Rattle.search_limits.specs.declared.expansions.TheConstants.{MOST_EXPANSIONS}
use Rattle.tsume_words.proofs.Offered.{Each, GivesValue, IsFirst, level_gives, no_test_laws, number_given}
use Rattle.tsume_words.specs.Meaning.{HasTestLaws, IsGivenWhereTaken, shape_of}
use Rattle.cmd_survey.specs.Line.{survey_line}
use Rattle.cmd_survey.specs.Words.{IsForSurvey, survey_words}

-- each option is the first of its name
firsts : Each (IsFirst (shape_of survey_line).rules) (shape_of survey_line).rules
unfolding survey_line
firsts = (refl, (refl, (refl, (refl, tt))))

given : (words : List Text) → Each (GivesValue (rows_after (shape_of survey_line).rules [] words)) (shape_of survey_line).rules
    → IsForSurvey (rows_after (shape_of survey_line).rules [] words)
unfolding survey_line
given words all = record {
  seed = number_given _ 0 MOST_SEED _ all.0 refl refl refl;
  count = number_given _ 1 MOST_COUNT _ all.1.0 refl refl refl;
  expansions = number_given _ 1 MOST_EXPANSIONS _ all.1.1.0 refl refl refl;
}

pub survey_is_given : IsGivenWhereTaken survey_words
survey_is_given words e = given words (level_gives (shape_of survey_line) words firsts e)

pub survey_test_laws : HasTestLaws survey_words.tests
survey_test_laws = no_test_laws
