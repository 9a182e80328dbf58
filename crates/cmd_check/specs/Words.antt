-- What the words of `check` ask for.
use Rattle.std.specs.Prelude.{Bool, true, false, ℕ, List, Option, Some, None, codes, option_map, string_bytes}
use Rattle.clap.specs.Words.{Row, Text}
use Rattle.search_limits.specs.declared.settings.TheConstants.{MOST_WORKERS}
use Rattle.tsume_words.specs.Given.{HasFlag, HasNumberIfAny, file_of, is_flagged, number_if_given, text_of}
use Rattle.tsume_words.specs.Meaning.{CommandMeaning, no_tests, without_clash}
use Rattle.tsume_words.specs.declared.faults.Clash.{Clash}
use Rattle.tsume_words.specs.declared.faults.Clash.TheVariants.{CollectionWithBound, CollectionWithProblem}
use Rattle.cmd_check.specs.declared.words.Check.{Check}
use Rattle.cmd_check.specs.Line.{check_line}

-- What the words ask for: by how many workers, where that is said; for which problem, where the
-- text has to be for a given one; whether it has a bound; whether it is what a collection printed;
-- and whether the user is told which problem was accepted.
pub record CheckView : Type 0 where
  pub workers : Option ℕ
  pub problem : Option Text
  pub bound : Bool
  pub collection : Bool
  pub progress : Bool

-- What `check` is asked, by its parts.
abbrev pub check_view : Check → CheckView
check_view asked = record {
  workers = asked.workers;
  problem = option_map string_bytes asked.problem;
  bound = asked.bound;
  collection = asked.collection;
  progress = asked.progress;
}

-- What clap gives for `check`, the number in its range.
pub record IsForCheck (found : List Row) : Type 0 where
  pub workers : HasNumberIfAny (codes "workers") 1 MOST_WORKERS found
  pub bound : HasFlag (codes "bound") found
  pub collection : HasFlag (codes "collection") found
  pub progress : HasFlag (codes "progress") found

-- What is asked for, by what clap found for `check`.
abbrev pub check_of : List Row → CheckView
check_of found = record {
  workers = number_if_given (codes "workers") found;
  problem = text_of (codes "problem") found;
  bound = is_flagged (codes "bound") found;
  collection = is_flagged (codes "collection") found;
  progress = is_flagged (codes "progress") found;
}

-- The first two options that don't go together: where the text is what a collection printed, it has
-- no bound, and is for no given problem.
abbrev pub clash_among : Bool → Bool → Option Text → Option Clash
clash_among false bound problem = None
clash_among true true problem = Some CollectionWithBound
clash_among true false (Some text) = Some CollectionWithProblem
clash_among true false None = None

-- The first two of what is asked for that don't go together.
abbrev pub clash_of : CheckView → Option Clash
clash_of asked = clash_among asked.collection asked.bound asked.problem

-- What the words of `check` mean. There are no tests but clap's, and that no two options are given
-- that don't go together.
abbrev pub check_words : CommandMeaning CheckView
check_words = record {
  line = check_line;
  IsGiven = IsForCheck;
  given = check_of;
  tests = without_clash no_tests clash_of;
  file = file_of;
}
