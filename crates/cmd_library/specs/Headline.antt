-- What `solve --library` promises in plain words.
use Rattle.std.specs.Prelude.{◌≡◌, ◌≤◌, ◌↔◌, ◌⊎◌, ℕ, List, Option, Some, length}
use Rattle.board_core.specs.declared.moves.Move.{Move}
use Rattle.board_core.specs.Board.{Board}
use Rattle.cert_text.specs.declared.certificate.Certificate.{Certificate}
use Rattle.cert_text.specs.Certificate.{Mating, Escaping}
use Rattle.library_check.specs.Refused.{AreValid}
use Rattle.library_check.specs.declared.refused.Refused.{Refused as RefusedOne}
use Rattle.search_limits.specs.Sizes.{SettingsView}
use Rattle.search_limits.specs.declared.cause.Cause.{Cause}
use Rattle.visit_log.specs.Run.{WorkerView}
use Rattle.tsume_io.specs.Faults.{Rose}
use Rattle.tsume_words.specs.declared.form.ProblemForm.{ProblemForm}
use Rattle.app_texts.specs.declared.answer.Solution.{Solution}
use Rattle.app_texts.specs.declared.answer.Solution.TheVariants.{Mate, NoMate, Unknown}
use Rattle.one_run.specs.declared.ended.Ended.{Ended}
use Rattle.one_run.specs.declared.ended.Ended.TheVariants.{Answered, CutShort, Failed}
use Rattle.one_run.specs.Outside.{Shown}
use Rattle.one_run.specs.Run.{IsEnded, AreUsedBefore, IsBrokenOff, IsCounted, IsAnswered, WantsMemory}
use Rattle.one_run.specs.Stops.{Signals, AreUnused, AreUsed, once_armed}
use Rattle.cmd_solve.specs.Headline.{NamesMate, NamesNoMate, StandsForMate, StandsForNoMate}
use Rattle.cmd_solve.specs.Meaning.{SolveView}
use Rattle.cmd_library.specs.declared.answer.LibraryAnswer.{LibraryAnswer}
use Rattle.cmd_library.specs.declared.answer.LibraryAnswer.TheVariants.{Solved, Refused}
use Rattle.cmd_library.specs.declared.asked.TheConstants.{MOST_LIBRARY_BYTES}
use Rattle.cmd_library.specs.declared.fault.LibraryTextFault.{LibraryTextFault}
use Rattle.cmd_library.specs.Answer.{HasRefused, IsPosed, IsTrueWith, IsVerdictFoundWith}
use Rattle.cmd_library.specs.Cut.{IsCutAtFirstLine}
use Rattle.cmd_library.specs.Meaning.{library_meaning}
use Rattle.cmd_library.specs.Notes.{IsKnownBy, notes_of}

-- The first line of the bytes stands for a problem that is a mate: the certificate is valid for it,
-- the checker accepts it, it can be read, and the answer's text is one of it; and the moves are its
-- main line.
pub record LineStandsForMate (form : ProblemForm) (input : List ℕ) (c : Mating) (moves : List Move) : Type 0 where
  pub line : List ℕ
  pub rest : List ℕ
  pub cut : IsCutAtFirstLine input line rest
  pub mate : StandsForMate form line c moves

-- The first line of the bytes stands for a problem that is no mate: the certificate is valid for
-- it, the checker accepts it, it can be read, and the answer's text is one of it.
pub record LineStandsForNoMate (form : ProblemForm) (input : List ℕ) (c : Escaping) : Type 0 where
  pub line : List ℕ
  pub rest : List ℕ
  pub cut : IsCutAtFirstLine input line rest
  pub no_mate : StandsForNoMate form line c

-- The bytes are a problem, of which neither is told, and a library of valid certificates. The
-- problem was given up: a search with these settings, in which the library's notes are known, ends
-- for the cause, which a worker of it met. Or that search found a note that answers it, and a walk
-- through its tree meets more positions of the attacker than a certificate is read with.
pub record IsUnknownWith (form : ProblemForm) (settings : SettingsView) (stops : Signals) (input : List ℕ) (cause : Cause) (crew : List WorkerView) : Type 0 where
  pub problem : Board
  pub certificates : List Certificate
  pub posed : IsPosed form input problem certificates
  pub valid : AreValid certificates
  pub why : IsTrueWith (notes_of problem.side certificates) problem settings stops (Unknown cause crew)

-- The bytes are a problem and a library by which it is known.
pub record IsKnownText (form : ProblemForm) (input : List ℕ) : Type 0 where
  pub problem : Board
  pub certificates : List Certificate
  pub posed : IsPosed form input problem certificates
  pub known : IsKnownBy certificates problem

-- The bytes are a problem and a library, and the solution is the verdict of a note with which a
-- search was solved in which the library's notes are known: a mate, that there is none, or, where
-- its certificate would have more entries than one is read with, that.
pub record IsVerdictWith (form : ProblemForm) (settings : SettingsView) (stops : Signals) (input : List ℕ) (solution : Solution) : Type 0 where
  pub problem : Board
  pub certificates : List Certificate
  pub posed : IsPosed form input problem certificates
  pub found : IsVerdictFoundWith (notes_of problem.side certificates) problem settings stops solution

-- The bytes that the source has left are a problem and a library, and short enough.
pub record HasLibraryLeft (form : ProblemForm) (left : Option (List ℕ)) : Type 0 where
  pub input : List ℕ
  pub problem : Board
  pub certificates : List Certificate
  pub told : left ≡ Some input
  pub short : length input ≤ MOST_LIBRARY_BYTES
  pub posed : IsPosed form input problem certificates

-- The stops at the end of a run: used where a solution is told, and nowhere else; where memory is
-- wanted, either.
abbrev pub AreUsedFor : SolveView → Signals → Ended LibraryAnswer LibraryTextFault → Type 0
AreUsedFor asked stops (Answered (Solved solution)) = AreUsed asked.settings.workers asked.watch.deadline stops
AreUsedFor asked stops (Answered (Refused refused)) = AreUnused stops
AreUsedFor asked stops (CutShort (Solved solution)) = AreUsed asked.settings.workers asked.watch.deadline stops
AreUsedFor asked stops (CutShort (Refused refused)) = AreUnused stops
AreUsedFor asked stops (Failed fault input) = AreUsedBefore (library_meaning asked) stops fault

-- A run of `solve --library` kept all that it promises, clause by clause, for whoever hands it on.
pub record IsLibraryRun (asked : SolveView) (stops : Signals) (source sink : Shown) (ended : Ended LibraryAnswer LibraryTextFault) : Type 0 where
  pub mate : (input : List ℕ) (c : Mating) (moves : List Move) → source.told ≡ Some input
      → ended ≡ Answered (Solved (Mate c moves)) → LineStandsForMate asked.form input c moves
  pub no_mate : (input : List ℕ) (c : Escaping) → source.told ≡ Some input
      → ended ≡ Answered (Solved (NoMate c)) → LineStandsForNoMate asked.form input c
  pub gave_up : (input : List ℕ) (cause : Cause) (crew : List WorkerView) → source.told ≡ Some input
      → ended ≡ Answered (Solved (Unknown cause crew))
      → IsUnknownWith asked.form asked.settings (once_armed asked.watch.deadline stops) input cause crew
  pub refused : (input : List ℕ) (refused : RefusedOne) → source.told ≡ Some input → ¬ IsBrokenOff ended
      → ((ended ≡ Answered (Refused refused)) ↔ HasRefused asked.form input refused)
  pub known : (input : List ℕ) (solution : Solution) → source.told ≡ Some input → IsKnownText asked.form input
      → ended ≡ Answered (Solved solution)
      → IsVerdictWith asked.form asked.settings (once_armed asked.watch.deadline stops) input solution
  pub own_mate : (c : Mating) (moves : List Move) → ended ≡ Answered (Solved (Mate c moves)) → NamesMate c moves
  pub own_no_mate : (c : Escaping) → ended ≡ Answered (Solved (NoMate c)) → NamesNoMate c
  pub does : IsEnded (library_meaning asked) stops source sink ended
  pub used : AreUsedFor asked stops ended
  pub counted : IsCounted source sink ended
  pub complete : HasLibraryLeft asked.form source.told → ¬ Rose source.faults source.faults_after
      → ¬ Rose sink.faults sink.faults_after
      → IsAnswered ended ⊎ WantsMemory ended
