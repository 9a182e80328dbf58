-- When an answer to a problem with a library behind it is true, and a fault one of its text.
use Rattle.std.specs.Prelude.{◌⊎◌, ℕ, List, Ok, Err}
use Rattle.board_core.specs.Board.{Board}
use Rattle.notes.specs.Derivation.{Derivation}
use Rattle.cert_text.specs.declared.certificate.Certificate.{Certificate}
use Rattle.library_text.specs.Reading.{IsReadable, IsTextOf, HasFirstFault}
use Rattle.library_check.specs.Refused.{AreValid, IsFirstRefused}
use Rattle.library_check.specs.declared.refused.Refused.{Refused as RefusedOne}
use Rattle.search_limits.specs.Sizes.{SettingsView}
use Rattle.search_limits.specs.declared.cause.Cause.{Cause}
use Rattle.visit_log.specs.Run.{WorkerView}
use Rattle.search_crew.specs.End.{IsSearchEndWith}
use Rattle.search_pool.specs.declared.end.SearchEnd.TheVariants.{Solved as SearchSolved, Unknown as SearchUnknown}
use Rattle.tsume_words.specs.declared.form.ProblemForm.{ProblemForm}
use Rattle.app_texts.specs.declared.fault.ProblemFault.{ProblemFault}
use Rattle.library_text.specs.declared.fault.LibraryFault.{LibraryFault}
use Rattle.app_texts.specs.declared.answer.Solution.{Solution}
use Rattle.app_texts.specs.declared.answer.Solution.TheVariants.{Mate, NoMate, Unknown}
use Rattle.problem_answers.specs.Answer.{IsVerdictOf}
use Rattle.problem_answers.specs.Reading.{StandsFor}
use Rattle.one_run.specs.Stops.{Signals, AreUnused, AreUsed, once_armed}
use Rattle.cmd_solve.specs.Meaning.{SolveView}
use Rattle.cmd_library.specs.declared.answer.LibraryAnswer.{LibraryAnswer}
use Rattle.cmd_library.specs.declared.answer.LibraryAnswer.TheVariants.{Solved, Refused}
use Rattle.cmd_library.specs.declared.fault.LibraryTextFault.{LibraryTextFault}
use Rattle.cmd_library.specs.declared.fault.LibraryTextFault.TheVariants.{Problem, Library}
use Rattle.cmd_library.specs.Cut.{IsCutAtFirstLine}
use Rattle.cmd_library.specs.Notes.{notes_of}

-- 1. A SOLUTION.

-- A verdict is that of a note with which a search of these settings is solved in which these notes
-- are known, whose workers poll a stop each.
pub record IsVerdictFoundWith (notes : List Derivation) (p : Board) (s : SettingsView) (stops : Signals) (solution : Solution) : Type 0 where
  pub note : Derivation
  pub search : IsSearchEndWith notes p s stops.before stops.after (SearchSolved note)
  pub verdict : IsVerdictOf p note solution

-- A search gave up for its cause: so one of these settings ends in which these notes are known,
-- with these workers, which poll a stop each.
abbrev pub IsGivenUpWith : List Derivation → Board → SettingsView → Signals → Cause → List WorkerView → Type 0
IsGivenUpWith notes p s stops cause crew = IsSearchEndWith notes p s stops.before stops.after (SearchUnknown cause crew)

-- A solution is true of a problem that was searched with these settings and stops, from these
-- notes: it is the verdict of the search's note; or, where it is unknown, the search gave up so.
abbrev pub IsTrueWith : List Derivation → Board → SettingsView → Signals → Solution → Type 0
IsTrueWith notes p s stops (Mate c moves) = IsVerdictFoundWith notes p s stops (Mate c moves)
IsTrueWith notes p s stops (NoMate c) = IsVerdictFoundWith notes p s stops (NoMate c)
IsTrueWith notes p s stops (Unknown cause crew) =
    IsGivenUpWith notes p s stops cause crew ⊎ IsVerdictFoundWith notes p s stops (Unknown cause crew)

-- 2. THE TEXT.

-- The first line of an input stands for the problem, and what stands behind it is the text of a
-- library of these certificates, which can be read.
pub record IsPosed (form : ProblemForm) (input : List ℕ) (problem : Board) (certificates : List Certificate) : Type 0 where
  pub line : List ℕ
  pub rest : List ℕ
  pub cut : IsCutAtFirstLine input line rest
  pub stands_for : StandsFor form line (Ok problem)
  pub readable : IsReadable certificates
  pub text : IsTextOf certificates rest

-- The first line of an input stands for no problem, and has this fault first.
pub record HasProblemFault (form : ProblemForm) (input : List ℕ) (fault : ProblemFault) : Type 0 where
  pub line : List ℕ
  pub rest : List ℕ
  pub cut : IsCutAtFirstLine input line rest
  pub stands_for : StandsFor form line (Err fault)

-- The first line of an input stands for a problem, and what stands behind it is no library, and has
-- this fault first.
pub record HasLibraryFault (form : ProblemForm) (input : List ℕ) (fault : LibraryFault) : Type 0 where
  pub line : List ℕ
  pub rest : List ℕ
  pub cut : IsCutAtFirstLine input line rest
  pub problem : Board
  pub stands_for : StandsFor form line (Ok problem)
  pub first : HasFirstFault rest fault

-- The fault is the input's: one of its first line, or one of the library behind it.
abbrev pub IsFaultOf : ProblemForm → List ℕ → LibraryTextFault → Type 0
IsFaultOf form input (Problem fault) = HasProblemFault form input fault
IsFaultOf form input (Library fault) = HasLibraryFault form input fault

-- 3. THE ANSWER.

-- The input is a problem and a library whose certificates are each valid for its own problem; the
-- solution is true of the problem, searched from the notes of those with its side to move; and the
-- stops were used.
pub record IsSolutionWith (asked : SolveView) (stops : Signals) (input : List ℕ) (solution : Solution) : Type 0 where
  pub problem : Board
  pub certificates : List Certificate
  pub posed : IsPosed asked.form input problem certificates
  pub valid : AreValid certificates
  pub true_of : IsTrueWith (notes_of problem.side certificates) problem asked.settings (once_armed asked.watch.deadline stops) solution
  pub used : AreUsed asked.settings.workers asked.watch.deadline stops

-- The input is a problem and a library, of which this certificate is the first that isn't valid for
-- its own problem, for this reason first.
pub record HasRefused (form : ProblemForm) (input : List ℕ) (refused : RefusedOne) : Type 0 where
  pub problem : Board
  pub certificates : List Certificate
  pub posed : IsPosed form input problem certificates
  pub first : IsFirstRefused certificates refused

-- An answer is true of an input: its solution is; or its certificate is refused, and no stop was
-- used.
abbrev pub IsTrueAnswer : SolveView → Signals → List ℕ → LibraryAnswer → Type 0
IsTrueAnswer asked stops input (Solved solution) = IsSolutionWith asked stops input solution
IsTrueAnswer asked stops input (Refused refused) = HasRefused asked.form input refused × AreUnused stops
