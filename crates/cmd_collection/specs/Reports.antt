-- What is told of a line of a collection.
use Rattle.std.specs.Prelude.{◌≡◌, ◌⊎◌, ℕ, List, Option, Some, None, true, false, Ok, Err}
use Rattle.board_core.specs.Board.{Board}
use Rattle.notes.specs.Derivation.{Derivation}
use Rattle.search_gate.specs.Polls.{IsPolled}
use Rattle.search_gate.specs.Stop.{Signal}
use Rattle.search_limits.specs.Sizes.{SettingsView}
use Rattle.search_limits.specs.declared.cause.Cause.TheVariants.{Expansions, Room, Height, Stopped, Entries}
use Rattle.visit_log.specs.Run.{WorkerView}
use Rattle.search_pool.specs.End.{HeedsStop, IsAlone, IsAloneUntil}
use Rattle.search_pool.specs.declared.end.SearchEnd.{SearchEnd}
use Rattle.search_pool.specs.declared.end.SearchEnd.TheVariants.{Solved as SearchSolved, Unknown as SearchUnknown}
use Rattle.tsume_words.specs.declared.form.Format.TheVariants.{Sfen}
use Rattle.tsume_words.specs.declared.form.ProblemForm.{ProblemForm}
use Rattle.cmd_collection.specs.Words.{CollectionView}
use Rattle.app_texts.specs.declared.answer.Solution.{Solution}
use Rattle.app_texts.specs.declared.answer.Solution.TheVariants.{Mate, NoMate, Unknown}
use Rattle.cmd_collection.specs.declared.report.Report.{Report}
use Rattle.cmd_collection.specs.declared.report.Report.TheVariants.{Solved, Fault}
use Rattle.cmd_collection.specs.declared.report.LineFault.TheVariants.{TooLong, Problem}
use Rattle.problem_lines.specs.Lines.{NumberedLine}
use Rattle.problem_answers.specs.Answer.{IsVerdictOf}
use Rattle.problem_answers.specs.Reading.{StandsFor}

-- What a stop tells that is new and was armed once, for so many milliseconds, before any poll.
abbrev pub armed_for : ℕ → Signal
armed_for deadline = record { polls = 0; raised = 0; last = 0; armed = Some deadline; arms = 1; early = 0 }

-- A search didn't end as stopped.
abbrev pub IsUnstopped : SearchEnd → Type 0
IsUnstopped (SearchSolved note) = Unit {0}
IsUnstopped (SearchUnknown (Expansions number) crew) = Unit {0}
IsUnstopped (SearchUnknown (Room number) crew) = Unit {0}
IsUnstopped (SearchUnknown (Height number) crew) = Unit {0}
IsUnstopped (SearchUnknown (Stopped worker) crew) = ⊥
IsUnstopped (SearchUnknown (Entries number) crew) = Unit {0}

-- A search of a problem with these settings ended so, whose stop was new and armed for a deadline:
-- the world of one worker answers this, where that stop may have signalled; it ended as stopped
-- exactly where the stop signalled, which it did once and last; and the stop was polled, and not
-- armed again.
pub record IsEndUntil (p : Board) (s : SettingsView) (deadline : ℕ) (end : SearchEnd) : Type 0 where
  pub stop : Signal
  pub until : IsAloneUntil p s (armed_for deadline) stop end
  pub heeds : HeedsStop (armed_for deadline) stop end
  pub polled : IsPolled (armed_for deadline) stop

-- A search of a problem ended so: alone, and not as stopped, where there is no deadline; else by a
-- stop of its own.
abbrev pub IsEndIn : Board → SettingsView → Option ℕ → SearchEnd → Type 0
IsEndIn p s None end = IsAlone p s end × IsUnstopped end
IsEndIn p s (Some deadline) end = IsEndUntil p s deadline end

-- A verdict is that of a note with which such a search is solved.
pub record IsVerdictIn (p : Board) (s : SettingsView) (deadline : Option ℕ) (solution : Solution) : Type 0 where
  pub note : Derivation
  pub end : IsEndIn p s deadline (SearchSolved note)
  pub verdict : IsVerdictOf p note solution

-- A solution is true of a problem that was searched with these settings and this deadline, if any:
-- it is the verdict of the search's note; or, where it is unknown, the search gave up so.
abbrev pub IsFoundIn : Board → SettingsView → Option ℕ → Solution → Type 0
IsFoundIn p s deadline (Mate c moves) = IsVerdictIn p s deadline (Mate c moves)
IsFoundIn p s deadline (NoMate c) = IsVerdictIn p s deadline (NoMate c)
IsFoundIn p s deadline (Unknown cause crew) = IsEndIn p s deadline (SearchUnknown cause crew) ⊎ IsVerdictIn p s deadline (Unknown cause crew)

-- The problem of a line is written as SFEN, and the defender is given the rest of the pieces where
-- that is asked for.
abbrev pub line_form : CollectionView → ProblemForm
line_form form = record { format = Sfen; rest = form.rest }

-- A line isn't too long, it stands for a problem, and the solution is true of it.
pub record IsLineSolved (settings : SettingsView) (form : CollectionView) (line : NumberedLine) (solution : Solution) : Type 0 where
  pub short : line.is_too_long ≡ false
  pub problem : Board
  pub stands_for : StandsFor (line_form form) line.content (Ok problem)
  pub found : IsFoundIn problem settings form.deadline solution

-- A report is true of a line: a solution of its problem; or that it is too long; or the first fault
-- of its text.
abbrev pub IsTrueReport : SettingsView → CollectionView → NumberedLine → Report → Type 0
IsTrueReport settings form line (Solved solution) = IsLineSolved settings form line solution
IsTrueReport settings form line (Fault TooLong) = line.is_too_long ≡ true
IsTrueReport settings form line (Fault (Problem fault)) = (line.is_too_long ≡ false) × StandsFor (line_form form) line.content (Err fault)

-- A line's search was stopped: there is a deadline, the line stands for a problem, and the stop of
-- its search, which was new and armed for that deadline before any poll, rose once, at its last
-- poll.
pub record IsLineStopped (settings : SettingsView) (form : CollectionView) (line : NumberedLine) (worker : ℕ) (crew : List WorkerView) : Type 0 where
  pub deadline : ℕ
  pub given : form.deadline ≡ Some deadline
  pub problem : Board
  pub stands_for : StandsFor (line_form form) line.content (Ok problem)
  pub stop : Signal
  pub polled : IsPolled (armed_for deadline) stop
  pub rose : stop.raised ≡ 1
  pub last : stop.last ≡ stop.polls
  pub until : IsAloneUntil problem settings (armed_for deadline) stop (SearchUnknown (Stopped worker) crew)

-- What it means that a report says `unknown stopped`: where it is true of a line, the search of
-- that line's problem was stopped by its deadline. So there is one.
abbrev pub MeansStopped : SettingsView → CollectionView → Type 0
MeansStopped settings form = (line : NumberedLine) (worker : ℕ) (crew : List WorkerView)
    → IsTrueReport settings form line (Solved (Unknown (Stopped worker) crew)) → IsLineStopped settings form line worker crew
