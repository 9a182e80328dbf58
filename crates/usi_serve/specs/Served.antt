-- What was done at a line of a session, and over lines.
use Rattle.std.specs.Prelude.{◌≡◌, ◌≢◌, ◌⊎◌, ◌++◌, ◌∷◌, [], ℕ, List, Option, Result, Ok, Err}
use Rattle.board_core.specs.Board.{Board}
use Rattle.search_gate.specs.Stop.{Signal}
use Rattle.search_limits.specs.Sizes.{SettingsView}
use Rattle.tsume_io.specs.Faults.{Rose}
use Rattle.tsume_io.specs.Sink.{GrewBy, GrewByPrefix}
use Rattle.one_run.specs.Outside.{Shown, NeverFailed, IsUntouched}
use Rattle.one_run.specs.Stops.{Signals, AreUnused, AreUsed}
use Rattle.usi_session.specs.Sessions.{SessionView, ActView, Says, Solves, Ends, DoesNothing, IsAct}
use Rattle.usi_serve.specs.Reply.{IsReplyTo, reply_line}
use Rattle.usi_serve.specs.declared.reply.Reply.{Reply}
use Rattle.usi_serve.specs.declared.serving.Served.{Served}
use Rattle.usi_serve.specs.declared.serving.Served.TheVariants.{Next, Replied, Quit}
use Rattle.usi_serve.specs.declared.serving.ServeFault.{ServeFault}
use Rattle.usi_serve.specs.declared.serving.ServeFault.TheVariants.{Write, NoMemory}

-- 1. ACTS.

-- What was done at an act: the text that was written, and the replies, of which there is one where
-- a problem was to be solved, and else none. The stops are used for that alone.
abbrev pub IsDone : ActView → Signals → List ℕ → List Reply → Type 0
IsDone (Says said) stops text replies = (text ≡ said) × (replies ≡ []) × AreUnused stops
IsDone (Solves problem settings millis) stops text replies =
    (reply : Reply) × (replies ≡ reply ∷ []) × (text ≡ reply_line reply.solution) × IsReplyTo problem settings millis stops reply
IsDone Ends stops text replies = (text ≡ []) × (replies ≡ []) × AreUnused stops
IsDone DoesNothing stops text replies = (text ≡ []) × (replies ≡ []) × AreUnused stops

-- Acts were done one after the other: their texts and their replies stand in the acts' order, and
-- the stops went from each act to the next.
abbrev pub AreDone : List ActView → List Signal → List ℕ → List Reply → List Signal → Type 0
AreDone [] before text replies after = (text ≡ []) × (replies ≡ []) × (after ≡ before)
AreDone (act ∷ acts) before text replies after =
    (said others : List ℕ) × (own rest : List Reply) × (between : List Signal)
    × (text ≡ said ++ others) × (replies ≡ own ++ rest)
    × IsDone act (record { before = before; after = between }) said own × AreDone acts between others rest after

-- 2. A LINE.

-- The replies among what came of a line.
abbrev pub replies_of : Served → List Reply
replies_of Next = []
replies_of (Replied reply) = reply ∷ []
replies_of Quit = []

-- The session ended exactly where that is told.
abbrev pub TellsEnd : ActView → Served → Type 0
TellsEnd act Next = act ≢ Ends
TellsEnd act (Replied reply) = act ≢ Ends
TellsEnd act Quit = act ≡ Ends

-- A line was served: what the session does at it was done, and its text was written.
pub record IsServed (before : SessionView) (line : List ℕ) (after : SessionView) (stops : Signals) (sink : Shown) (served : Served) : Type 0 where
  pub act : ActView
  pub is_act : IsAct before line act after
  pub text : List ℕ
  pub done : IsDone act stops text (replies_of served)
  pub told : TellsEnd act served
  pub grew : GrewBy sink.told sink.told_after text
  pub kept : NeverFailed sink

-- What the session does at a line was done, but the sink failed, and has kept a part of its text.
pub record IsServedInPart (before : SessionView) (line : List ℕ) (after : SessionView) (stops : Signals) (sink : Shown) : Type 0 where
  pub act : ActView
  pub is_act : IsAct before line act after
  pub text : List ℕ
  pub replies : List Reply
  pub done : IsDone act stops text replies
  pub grew : GrewByPrefix sink.told sink.told_after text
  pub rose : Rose sink.faults sink.faults_after

-- A problem was to be solved at the line, and the stops were used for it.
pub record WereUsedAt (before : SessionView) (line : List ℕ) (stops : Signals) : Type 0 where
  pub problem : Board
  pub settings : SettingsView
  pub millis : Option ℕ
  pub asked : IsAct before line (Solves problem settings millis) before
  pub used : AreUsed settings.workers millis stops

-- Memory was wanted at a line: the session is as it was, and nothing was written. The stops were
-- used where a problem was to be solved, or weren't.
pub record IsUnserved (before : SessionView) (line : List ℕ) (after : SessionView) (stops : Signals) (sink : Shown) : Type 0 where
  pub session : after ≡ before
  pub unwritten : IsUntouched sink
  pub stops_used : AreUnused stops ⊎ WereUsedAt before line stops

-- What came of serving a line.
abbrev pub IsLineServed : SessionView → List ℕ → SessionView → Signals → Shown → Result Served ServeFault → Type 0
IsLineServed before line after stops sink (Ok served) = IsServed before line after stops sink served
IsLineServed before line after stops sink (Err Write) = IsServedInPart before line after stops sink
IsLineServed before line after stops sink (Err NoMemory) = IsUnserved before line after stops sink
