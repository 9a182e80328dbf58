-- When a solution is true.
use Rattle.std.specs.Prelude.{◌⊎◌, ℕ, List, Ok}
use Rattle.board_core.specs.Board.{Board}
use Rattle.notes.specs.Derivation.{Derivation}
use Rattle.search_limits.specs.Sizes.{SettingsView}
use Rattle.search_limits.specs.declared.cause.Cause.{Cause}
use Rattle.visit_log.specs.Run.{WorkerView}
use Rattle.search_crew.specs.End.{IsSearchEnd}
use Rattle.search_pool.specs.declared.end.SearchEnd.TheVariants.{Solved as SearchSolved, Unknown as SearchUnknown}
use Rattle.tsume_words.specs.declared.form.ProblemForm.{ProblemForm}
use Rattle.app_texts.specs.declared.answer.Solution.{Solution}
use Rattle.app_texts.specs.declared.answer.Solution.TheVariants.{Mate, NoMate, Unknown}
use Rattle.problem_answers.specs.Answer.{IsVerdictOf}
use Rattle.problem_answers.specs.Reading.{StandsFor}
use Rattle.one_run.specs.Stops.{Signals}

-- A verdict is that of a note with which a search of these settings is solved, whose workers poll a
-- stop each.
pub record IsVerdictFound (p : Board) (s : SettingsView) (stops : Signals) (solution : Solution) : Type 0 where
  pub note : Derivation
  pub search : IsSearchEnd p s stops.before stops.after (SearchSolved note)
  pub verdict : IsVerdictOf p note solution

-- A search gave up for its cause: so a search of these settings ends, with these workers, which
-- poll a stop each; and that one was stopped is the cause only where its stop signalled.
abbrev pub IsGivenUp : Board → SettingsView → Signals → Cause → List WorkerView → Type 0
IsGivenUp p s stops cause crew = IsSearchEnd p s stops.before stops.after (SearchUnknown cause crew)

-- A solution is true of a problem that was searched with these settings and stops: it is the
-- verdict of the search's note; or, where it is unknown, the search gave up so.
abbrev pub IsTrueOf : Board → SettingsView → Signals → Solution → Type 0
IsTrueOf p s stops (Mate c moves) = IsVerdictFound p s stops (Mate c moves)
IsTrueOf p s stops (NoMate c) = IsVerdictFound p s stops (NoMate c)
IsTrueOf p s stops (Unknown cause crew) = IsGivenUp p s stops cause crew ⊎ IsVerdictFound p s stops (Unknown cause crew)

-- The bytes of an input are a problem of which the solution is true.
pub record IsSolution (form : ProblemForm) (settings : SettingsView) (stops : Signals) (input : List ℕ) (solution : Solution) : Type 0 where
  pub problem : Board
  pub stands_for : StandsFor form input (Ok problem)
  pub true_of : IsTrueOf problem settings stops solution
