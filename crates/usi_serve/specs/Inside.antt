-- What the private functions of this crate say of one another; no public clause cites these.
use Rattle.std.specs.Prelude.{◌≡◌, ℕ, List, Option, Result, Ok, Err}
use Rattle.board_core.specs.Board.{Board}
use Rattle.search_limits.specs.Settings.{settings_in}
use Rattle.search_limits.specs.Sizes.{SettingsView}
use Rattle.tsume_io.specs.Faults.{Rose}
use Rattle.tsume_io.specs.Sink.{GrewBy, GrewByPrefix}
use Rattle.one_run.specs.Outside.{Shown, NeverFailed, IsUntouched}
use Rattle.one_run.specs.Stops.{Signals, AreUsed}
use Rattle.usi_session.specs.Sessions.{ActView, Solves}
use Rattle.usi_session.specs.declared.act.Solve.{Solve}
use Rattle.usi_serve.specs.Served.{IsDone, TellsEnd, replies_of}
use Rattle.usi_serve.specs.declared.reply.Reply.{Reply}
use Rattle.usi_serve.specs.declared.serving.Served.{Served}
use Rattle.usi_serve.specs.declared.serving.ServeFault.{ServeFault}
use Rattle.usi_serve.specs.declared.serving.ServeFault.TheVariants.{Write, NoMemory}

-- The act of a problem that is to be solved.
abbrev pub solve_seen : Solve → ActView
solve_seen asked = Solves asked.problem.position (settings_in asked.settings) asked.millis

-- An act was done, and its text written.
pub record IsWhole (act : ActView) (stops : Signals) (sink : Shown) (served : Served) : Type 0 where
  pub text : List ℕ
  pub done : IsDone act stops text (replies_of served)
  pub tells : TellsEnd act served
  pub grew : GrewBy sink.told sink.told_after text
  pub kept : NeverFailed sink

-- An act was done, and a failed sink has kept a part of its text.
pub record IsInPart (act : ActView) (stops : Signals) (sink : Shown) : Type 0 where
  pub text : List ℕ
  pub replies : List Reply
  pub done : IsDone act stops text replies
  pub grew : GrewByPrefix sink.told sink.told_after text
  pub rose : Rose sink.faults sink.faults_after

-- Memory was wanted for a problem that was to be solved: the stops were used, and nothing was
-- written.
pub record IsWanting (act : ActView) (stops : Signals) (sink : Shown) : Type 0 where
  pub problem : Board
  pub settings : SettingsView
  pub millis : Option ℕ
  pub asked : act ≡ Solves problem settings millis
  pub used : AreUsed settings.workers millis stops
  pub unwritten : IsUntouched sink

-- What came of an act.
abbrev pub IsActServed : ActView → Signals → Shown → Result Served ServeFault → Type 0
IsActServed act stops sink (Ok served) = IsWhole act stops sink served
IsActServed act stops sink (Err Write) = IsInPart act stops sink
IsActServed act stops sink (Err NoMemory) = IsWanting act stops sink
