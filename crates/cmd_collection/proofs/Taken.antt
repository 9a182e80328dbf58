-- What clap gives for `collection` where it takes the words behind the command's name.
use Rattle.std.proofs.Common.{refl, List, []}
use Rattle.clap.specs.Walk.{Text, rows_after}
use Rattle.search_limits.specs.Settings.{PowersHaveOneBit}
use Rattle.search_limits.specs.declared.settings.TheConstants.{MOST_ROOM, LEAST_ROWS, MOST_ROWS, MOST_SHARDS}
use Rattle.search_limits.specs.declared.expansions.TheConstants.{MOST_EXPANSIONS}
use Rattle.tsume_words.proofs.Offered.{Each, GivesValue, IsFirst, flag_given, level_gives, number_given, number_if_any, search_test_laws}
use Rattle.tsume_words.specs.declared.watch.TheConstants.{MOST_DEADLINE}
use Rattle.tsume_words.specs.Meaning.{HasTestLaws, IsGivenWhereTaken, shape_of}
use Rattle.cmd_collection.specs.declared.form.TheConstants.{MOST_FIRST, MOST_THREADS}
use Rattle.cmd_collection.specs.Line.{collection_line}
use Rattle.cmd_collection.specs.Words.{IsForCollection, collection_words}

-- each option is the first of its name
firsts : Each (IsFirst (shape_of collection_line).rules) (shape_of collection_line).rules
unfolding collection_line
firsts = (refl, (refl, (refl, (refl, (refl, (refl, (refl, (refl, (refl, (refl, (refl, (refl, (refl, tt)))))))))))))

given : (words : List Text) → Each (GivesValue (rows_after (shape_of collection_line).rules [] words)) (shape_of collection_line).rules
    → IsForCollection (rows_after (shape_of collection_line).rules [] words)
unfolding collection_line
given words all = record {
  numbers = record {
    expansions = number_given _ 1 MOST_EXPANSIONS _ all.0 refl refl refl;
    room = number_given _ 1 MOST_ROOM _ all.1.0 refl refl refl;
    rows = number_given _ LEAST_ROWS MOST_ROWS _ all.1.1.0 refl refl refl;
    shards = number_if_any _ 1 MOST_SHARDS _ all.1.1.1.0 refl refl;
  };
  threads = number_if_any _ 1 MOST_THREADS _ all.1.1.1.1.0 refl refl;
  deadline = number_if_any _ 1 MOST_DEADLINE _ all.1.1.1.1.1.0 refl refl;
  first = number_given _ 1 MOST_FIRST _ all.1.1.1.1.1.1.0 refl refl refl;
  rest = flag_given _ _ all.1.1.1.1.1.1.1.0 refl refl refl;
  certificates = flag_given _ _ all.1.1.1.1.1.1.1.1.0 refl refl refl;
  remarks = flag_given _ _ all.1.1.1.1.1.1.1.1.1.0 refl refl refl;
  progress = flag_given _ _ all.1.1.1.1.1.1.1.1.1.1.0 refl refl refl;
}

pub collection_is_given : IsGivenWhereTaken collection_words
collection_is_given words e = given words (level_gives (shape_of collection_line) words firsts e)

pub collection_test_laws : PowersHaveOneBit → HasTestLaws collection_words.tests
collection_test_laws law = search_test_laws law (λ asked. asked.settings)
