-- What clap gives for `cook` where it takes the words behind the command's name.
use Rattle.std.proofs.Common.{refl, List, []}
use Rattle.clap.specs.Walk.{Text, rows_after}
use Rattle.search_limits.specs.declared.settings.TheConstants.{MOST_WORKERS, MOST_ROOM, LEAST_ROWS, MOST_ROWS, MOST_SHARDS}
use Rattle.search_limits.specs.declared.expansions.TheConstants.{MOST_EXPANSIONS}
use Rattle.tsume_words.specs.declared.watch.TheConstants.{MOST_DEADLINE}
use Rattle.tsume_words.proofs.Offered.{Each, GivesValue, IsFirst, flag_given, level_gives, number_given, number_if_any}
use Rattle.tsume_words.specs.Meaning.{IsGivenWhereTaken, shape_of}
use Rattle.cmd_solve.specs.Words.{IsForSearch}
use Rattle.cmd_cook.specs.Line.{cook_line}
use Rattle.cmd_cook.specs.Words.{cook_words}

-- each option is the first of its name
firsts : Each (IsFirst (shape_of cook_line).rules) (shape_of cook_line).rules
unfolding cook_line
firsts = (refl, (refl, (refl, (refl, (refl, (refl, (refl, (refl, (refl, (refl, (refl, (refl, tt))))))))))))

-- behind the line of moves, of which any text is taken
given : (words : List Text) → Each (GivesValue (rows_after (shape_of cook_line).rules [] words)) (shape_of cook_line).rules
    → IsForSearch (rows_after (shape_of cook_line).rules [] words)
unfolding cook_line
given words all = record {
  workers = number_given _ 1 MOST_WORKERS _ all.1.0 refl refl refl;
  numbers = record {
    expansions = number_given _ 1 MOST_EXPANSIONS _ all.1.1.0 refl refl refl;
    room = number_given _ 1 MOST_ROOM _ all.1.1.1.0 refl refl refl;
    rows = number_given _ LEAST_ROWS MOST_ROWS _ all.1.1.1.1.0 refl refl refl;
    shards = number_if_any _ 1 MOST_SHARDS _ all.1.1.1.1.1.0 refl refl;
  };
  deadline = number_if_any _ 1 MOST_DEADLINE _ all.1.1.1.1.1.1.0 refl refl;
  kif = flag_given _ _ all.1.1.1.1.1.1.1.0 refl refl refl;
  rest = flag_given _ _ all.1.1.1.1.1.1.1.1.0 refl refl refl;
  progress = flag_given _ _ all.1.1.1.1.1.1.1.1.1.0 refl refl refl;
}

pub cook_is_given : IsGivenWhereTaken cook_words
cook_is_given words e = given words (level_gives (shape_of cook_line) words firsts e)
