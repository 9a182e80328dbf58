-- What clap gives for `check` where it takes the words behind the command's name.
use Rattle.std.proofs.Common.{refl, List, []}
use Rattle.clap.specs.Walk.{Text, rows_after}
use Rattle.search_limits.specs.declared.settings.TheConstants.{MOST_WORKERS}
use Rattle.tsume_words.proofs.Offered.{Each, GivesValue, IsFirst, clash_laws, flag_given, level_gives, no_test_laws, number_if_any}
use Rattle.tsume_words.specs.Meaning.{HasTestLaws, IsGivenWhereTaken, no_tests, shape_of}
use Rattle.cmd_check.specs.Line.{check_line}
use Rattle.cmd_check.specs.Words.{IsForCheck, check_words, clash_of}

-- each option is the first of its name
firsts : Each (IsFirst (shape_of check_line).rules) (shape_of check_line).rules
unfolding check_line
firsts = (refl, (refl, (refl, (refl, (refl, (refl, (refl, tt)))))))

given : (words : List Text) → Each (GivesValue (rows_after (shape_of check_line).rules [] words)) (shape_of check_line).rules
    → IsForCheck (rows_after (shape_of check_line).rules [] words)
unfolding check_line
given words all = record {
  workers = number_if_any _ 1 MOST_WORKERS _ all.0 refl refl;
  bound = flag_given _ _ all.1.1.0 refl refl refl;
  collection = flag_given _ _ all.1.1.1.0 refl refl refl;
  progress = flag_given _ _ all.1.1.1.1.0 refl refl refl;
}

pub check_is_given : IsGivenWhereTaken check_words
check_is_given words e = given words (level_gives (shape_of check_line) words firsts e)

pub check_test_laws : HasTestLaws check_words.tests
check_test_laws = clash_laws no_tests clash_of no_test_laws
