-- What `solve` promises in plain words.
use Rattle.std.specs.Prelude.{◌≡◌, ◌≤◌, ◌⊎◌, ℕ, List, Option, Some, Ok, length}
use Rattle.board_core.specs.declared.moves.Move.{Move}
use Rattle.board_core.specs.Board.{Board}
use Rattle.mate_def.specs.Mate.{IsMate}
use Rattle.cert_text.specs.declared.certificate.Certificate.TheVariants as certificates
use Rattle.cert_text.specs.Certificate.{Mating, Escaping}
use Rattle.cert_text.specs.Reading.{IsReadable, IsTextOf}
use Rattle.cert_check.specs.Valid.{ValidMate, ValidEscape}
use Rattle.play_line.specs.Line.{IsMainLine}
use Rattle.search_limits.specs.Sizes.{SettingsView}
use Rattle.search_limits.specs.declared.cause.Cause.{Cause}
use Rattle.visit_log.specs.Run.{WorkerView}
use Rattle.tsume_io.specs.Faults.{Rose}
use Rattle.tsume_words.specs.declared.form.ProblemForm.{ProblemForm}
use Rattle.app_texts.specs.declared.answer.Solution.{Solution}
use Rattle.app_texts.specs.declared.answer.Solution.TheVariants.{Mate, NoMate, Unknown}
use Rattle.app_texts.specs.declared.fault.ProblemFault.{ProblemFault}
use Rattle.app_texts.specs.Texts.{solution_text}
use Rattle.problem_answers.specs.Answer.{IsAcceptedFor}
use Rattle.problem_answers.specs.Reading.{StandsFor}
use Rattle.problem_lines.specs.declared.line.TheConstants.{MOST_PROBLEM_BYTES}
use Rattle.one_run.specs.declared.ended.Ended.{Ended}
use Rattle.one_run.specs.declared.ended.Ended.TheVariants.{Answered}
use Rattle.one_run.specs.Outside.{Shown}
use Rattle.one_run.specs.Run.{IsEnded, AreUsedTill, IsCounted, IsAnswered, WantsMemory}
use Rattle.one_run.specs.Stops.{Signals, once_armed}
use Rattle.cmd_solve.specs.Answer.{IsTrueOf}
use Rattle.cmd_solve.specs.Meaning.{SolveView, solve_meaning}

-- The bytes stand for a problem that is a mate; the certificate is valid for it, the checker
-- accepts it, it can be read, and the answer's text is one of it; and the moves are its main line.
pub record StandsForMate (form : ProblemForm) (input : List ℕ) (c : Mating) (moves : List Move) : Type 0 where
  pub problem : Board
  pub stands_for : StandsFor form input (Ok problem)
  pub mate : IsMate problem.side problem
  pub valid : ValidMate c problem
  pub accepted : IsAcceptedFor problem (certificates.Mate c)
  pub readable : IsReadable (certificates.Mate c)
  pub text : IsTextOf (certificates.Mate c) (solution_text (Mate c moves))
  pub line : IsMainLine c problem.side problem moves

-- The bytes stand for a problem that is no mate; the certificate is valid for it, the checker
-- accepts it, it can be read, and the answer's text is one of it.
pub record StandsForNoMate (form : ProblemForm) (input : List ℕ) (c : Escaping) : Type 0 where
  pub problem : Board
  pub stands_for : StandsFor form input (Ok problem)
  pub no_mate : ¬ IsMate problem.side problem
  pub valid : ValidEscape c problem
  pub accepted : IsAcceptedFor problem (certificates.Escape c)
  pub readable : IsReadable (certificates.Escape c)
  pub text : IsTextOf (certificates.Escape c) (solution_text (NoMate c))

-- The bytes stand for a problem of which neither is told. It was given up: a search with these
-- settings ends for the cause, which a worker of it met: a limit was used up, or its stop
-- signalled. Or that search found a note that answers it, and a walk through its tree meets more
-- positions of the attacker than a certificate is read with.
pub record StandsForUnknown (form : ProblemForm) (settings : SettingsView) (stops : Signals) (input : List ℕ) (cause : Cause) (crew : List WorkerView) : Type 0 where
  pub problem : Board
  pub stands_for : StandsFor form input (Ok problem)
  pub why : IsTrueOf problem settings stops (Unknown cause crew)

-- The problem that the certificate itself names is a mate, for which it is valid and the checker
-- accepts it; it can be read, and the answer's text is one of it; and the moves are its main line.
pub record NamesMate (c : Mating) (moves : List Move) : Type 0 where
  pub mate : IsMate c.problem.side c.problem
  pub valid : ValidMate c c.problem
  pub accepted : IsAcceptedFor c.problem (certificates.Mate c)
  pub readable : IsReadable (certificates.Mate c)
  pub text : IsTextOf (certificates.Mate c) (solution_text (Mate c moves))
  pub line : IsMainLine c c.problem.side c.problem moves

-- The problem that the certificate itself names is no mate, for which it is valid and the checker
-- accepts it; it can be read, and the answer's text is one of it.
pub record NamesNoMate (c : Escaping) : Type 0 where
  pub no_mate : ¬ IsMate c.problem.side c.problem
  pub valid : ValidEscape c c.problem
  pub accepted : IsAcceptedFor c.problem (certificates.Escape c)
  pub readable : IsReadable (certificates.Escape c)
  pub text : IsTextOf (certificates.Escape c) (solution_text (NoMate c))

-- The bytes that the source has left are a problem, and short enough.
pub record HasProblemLeft (form : ProblemForm) (left : Option (List ℕ)) : Type 0 where
  pub input : List ℕ
  pub problem : Board
  pub told : left ≡ Some input
  pub short : length input ≤ MOST_PROBLEM_BYTES
  pub stands_for : StandsFor form input (Ok problem)

-- A run of `solve` kept all that it promises, clause by clause, for whoever hands it on.
pub record IsSolveRun (asked : SolveView) (stops : Signals) (source sink : Shown) (ended : Ended Solution ProblemFault) : Type 0 where
  pub mate : (input : List ℕ) (c : Mating) (moves : List Move) → source.told ≡ Some input
      → ended ≡ Answered (Mate c moves) → StandsForMate asked.form input c moves
  pub no_mate : (input : List ℕ) (c : Escaping) → source.told ≡ Some input
      → ended ≡ Answered (NoMate c) → StandsForNoMate asked.form input c
  pub gave_up : (input : List ℕ) (cause : Cause) (crew : List WorkerView) → source.told ≡ Some input
      → ended ≡ Answered (Unknown cause crew)
      → StandsForUnknown asked.form asked.settings (once_armed asked.watch.deadline stops) input cause crew
  pub own_mate : (c : Mating) (moves : List Move) → ended ≡ Answered (Mate c moves)
      → NamesMate c moves
  pub own_no_mate : (c : Escaping) → ended ≡ Answered (NoMate c) → NamesNoMate c
  pub does : IsEnded (solve_meaning asked) stops source sink ended
  pub used : AreUsedTill (solve_meaning asked) stops ended
  pub counted : IsCounted source sink ended
  pub complete : HasProblemLeft asked.form source.told → ¬ Rose source.faults source.faults_after
      → ¬ Rose sink.faults sink.faults_after
      → IsAnswered ended ⊎ WantsMemory ended
