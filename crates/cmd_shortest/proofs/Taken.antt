-- What clap gives for `shortest` where it takes the words behind the command's name.
use Rattle.std.proofs.Common.{refl, List, []}
use Rattle.clap.specs.Walk.{Text, rows_after}
use Rattle.search_limits.specs.declared.expansions.TheConstants.{MOST_EXPANSIONS}
use Rattle.shortest_mate.specs.declared.search.TheConstants.{MOST_LIMIT}
use Rattle.tsume_words.specs.declared.watch.TheConstants.{MOST_DEADLINE}
use Rattle.tsume_words.proofs.Offered.{Each, GivesValue, IsFirst, flag_given, level_gives, number_given, number_if_any}
use Rattle.tsume_words.specs.Meaning.{IsGivenWhereTaken, shape_of}
use Rattle.cmd_shortest.specs.Line.{shortest_line}
use Rattle.cmd_shortest.specs.Words.{IsForShortest, shortest_words}

-- each option is the first of its name
firsts : Each (IsFirst (shape_of shortest_line).rules) (shape_of shortest_line).rules
unfolding shortest_line
firsts = (refl, (refl, (refl, (refl, (refl, (refl, (refl, (refl, tt))))))))

given : (words : List Text) → Each (GivesValue (rows_after (shape_of shortest_line).rules [] words)) (shape_of shortest_line).rules
    → IsForShortest (rows_after (shape_of shortest_line).rules [] words)
unfolding shortest_line
given words all = record {
  limit = number_given _ 1 MOST_LIMIT _ all.0 refl refl refl;
  expansions = number_given _ 1 MOST_EXPANSIONS _ all.1.0 refl refl refl;
  deadline = number_if_any _ 1 MOST_DEADLINE _ all.1.1.0 refl refl;
  kif = flag_given _ _ all.1.1.1.0 refl refl refl;
  rest = flag_given _ _ all.1.1.1.1.0 refl refl refl;
  progress = flag_given _ _ all.1.1.1.1.1.0 refl refl refl;
}

pub shortest_is_given : IsGivenWhereTaken shortest_words
shortest_is_given words e = given words (level_gives (shape_of shortest_line) words firsts e)
