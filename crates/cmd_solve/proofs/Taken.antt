-- What clap gives for `solve`, where it takes the words behind the command's name.
use Rattle.std.proofs.Common.{refl, List, []}
use Rattle.clap.specs.Walk.{Text, rows_after}
use Rattle.search_limits.specs.Settings.{PowersHaveOneBit}
use Rattle.search_limits.specs.declared.settings.TheConstants.{MOST_WORKERS, MOST_ROOM, LEAST_ROWS, MOST_ROWS, MOST_SHARDS}
use Rattle.search_limits.specs.declared.expansions.TheConstants.{MOST_EXPANSIONS}
use Rattle.tsume_words.specs.declared.watch.TheConstants.{MOST_DEADLINE}
use Rattle.tsume_words.proofs.Offered.{Each, GivesValue, IsFirst, clash_laws, flag_given, level_gives, number_given, number_if_any, search_test_laws}
use Rattle.tsume_words.specs.Meaning.{HasTestLaws, IsGivenWhereTaken, search_tests, shape_of}
use Rattle.cmd_solve.specs.Line.{solve_line}
use Rattle.cmd_solve.specs.Words.{IsForSolve, SolveWordsView, clash_of, solve_words}

-- each option is the first of its name
firsts : Each (IsFirst (shape_of solve_line).rules) (shape_of solve_line).rules
unfolding solve_line
firsts = (refl, (refl, (refl, (refl, (refl, (refl, (refl, (refl, (refl, (refl, (refl, (refl, tt))))))))))))

-- behind the flag of a library
given : (words : List Text) → Each (GivesValue (rows_after (shape_of solve_line).rules [] words)) (shape_of solve_line).rules
    → IsForSolve (rows_after (shape_of solve_line).rules [] words)
unfolding solve_line
given words all = record {
  library = flag_given _ _ all.0 refl refl refl;
  search = record {
    workers = number_given _ 1 MOST_WORKERS _ all.1.0 refl refl refl;
    numbers = record {
      expansions = number_given _ 1 MOST_EXPANSIONS _ all.1.1.0 refl refl refl;
      room = number_given _ 1 MOST_ROOM _ all.1.1.1.0 refl refl refl;
      rows = number_given _ LEAST_ROWS MOST_ROWS _ all.1.1.1.1.0 refl refl refl;
      shards = number_if_any _ 1 MOST_SHARDS _ all.1.1.1.1.1.0 refl refl;
    };
    deadline = number_if_any _ 1 MOST_DEADLINE _ all.1.1.1.1.1.1.0 refl refl;
    kif = flag_given _ _ all.1.1.1.1.1.1.1.0 refl refl refl;
    rest = flag_given _ _ all.1.1.1.1.1.1.1.1.0 refl refl refl;
    progress = flag_given _ _ all.1.1.1.1.1.1.1.1.1.0 refl refl refl;
  };
}

pub solve_is_given : IsGivenWhereTaken solve_words
solve_is_given words e = given words (level_gives (shape_of solve_line) words firsts e)

pub solve_test_laws : PowersHaveOneBit → HasTestLaws solve_words.tests
solve_test_laws law = clash_laws (search_tests (λ (asked : SolveWordsView). asked.solve.settings)) clash_of (search_test_laws law (λ asked. asked.solve.settings))
