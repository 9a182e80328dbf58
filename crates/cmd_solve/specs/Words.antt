-- What the words of `solve` ask for.
use Rattle.std.specs.Prelude.{if◌then◌else◌, Bool, List, Option, Some, None, codes}
use Rattle.clap.specs.Words.{Row}
use Rattle.search_limits.specs.declared.settings.TheConstants.{MOST_WORKERS}
use Rattle.tsume_words.specs.declared.faults.Clash.{Clash}
use Rattle.tsume_words.specs.declared.faults.Clash.TheVariants.{LibraryWithKif}
use Rattle.tsume_words.specs.declared.form.Format.{Format}
use Rattle.tsume_words.specs.declared.form.Format.TheVariants.{Kif}
use Rattle.tsume_words.specs.declared.watch.TheConstants.{MOST_DEADLINE}
use Rattle.tsume_words.specs.Given.{HasFlag, HasNumber, HasNumberIfAny, IsForSearch as AreNumbersOf, file_of, form_of, is_flagged, number_of, settings_by, watch_of}
use Rattle.tsume_words.specs.Meaning.{CommandMeaning, search_tests, without_clash}
use Rattle.cmd_solve.specs.declared.words.SolveWords.{SolveWords}
use Rattle.cmd_solve.specs.Asked.{solve_in}
use Rattle.cmd_solve.specs.Line.{solve_line}
use Rattle.cmd_solve.specs.Meaning.{SolveView}

-- What clap gives for a search, each number in its range.
pub record IsForSearch (found : List Row) : Type 0 where
  pub workers : HasNumber (codes "workers") 1 MOST_WORKERS found
  pub numbers : AreNumbersOf found
  pub deadline : HasNumberIfAny (codes "deadline") 1 MOST_DEADLINE found
  pub kif : HasFlag (codes "kif") found
  pub rest : HasFlag (codes "rest") found
  pub progress : HasFlag (codes "progress") found

-- What is asked of a search, by what clap found.
abbrev pub search_of : List Row → SolveView
search_of found = record {
  settings = settings_by (number_of (codes "workers") found) found;
  form = form_of found;
  watch = watch_of found;
}

-- What the words of `solve` ask for: what is asked of the problem, and whether a library stands
-- behind it.
pub record SolveWordsView : Type 0 where
  pub solve : SolveView
  pub library : Bool

-- What they ask for, by its parts.
abbrev pub solve_view : SolveWords → SolveWordsView
solve_view asked = record { solve = solve_in asked.solve; library = asked.library }

-- What clap gives for `solve`.
pub record IsForSolve (found : List Row) : Type 0 where
  pub search : IsForSearch found
  pub library : HasFlag (codes "library") found

-- What is asked for, by what clap found for `solve`.
abbrev pub solve_of : List Row → SolveWordsView
solve_of found = record { solve = search_of found; library = is_flagged (codes "library") found }

-- A library doesn't go with a problem of this format: it stands behind an SFEN alone.
abbrev pub clash_with : Format → Option Clash
clash_with Kif = Some LibraryWithKif
clash_with other = None

-- The two options that don't go together, where both are given.
abbrev pub clash_of : SolveWordsView → Option Clash
clash_of asked = if asked.library then clash_with asked.solve.form.format else None

-- What the words of `solve` mean. The numbers of its search are tested, and then that no library
-- stands behind a KIF diagram.
abbrev pub solve_words : CommandMeaning SolveWordsView
solve_words = record {
  line = solve_line;
  IsGiven = IsForSolve;
  given = solve_of;
  tests = without_clash (search_tests (λ asked. asked.solve.settings)) clash_of;
  file = file_of;
}
