-- What the private functions of this crate say of one another; no public clause cites these.
use Rattle.std.specs.Prelude.{◌≡◌, ◌≢◌, ◌⊎◌, ◌++◌, [], ℕ, List, Option, None, Some}
use Rattle.tsume_io.specs.Faults.{Rose}
use Rattle.one_run.specs.Outside.{Shown, NeverFailed, IsUntouched}
use Rattle.one_run.specs.Stops.{Signals, AreUnused}
use Rattle.input_lines.specs.Lines.{LinesView, IsLineGiven, IsOver, IsTooLong, first_lines, place_of}
use Rattle.input_lines.specs.declared.lines.LineEnd.{LineEnd}
use Rattle.input_lines.specs.declared.lines.LineEnd.TheVariants as lines
use Rattle.usi_session.specs.Sessions.{SessionView, first_session}
use Rattle.usi_serve.specs.Served.{IsServed, IsServedInPart, WereUsedAt, replies_of}
use Rattle.usi_serve.specs.declared.reply.Reply.{Reply}
use Rattle.usi_serve.specs.declared.serving.Served.{Served}
use Rattle.usi_serve.specs.declared.serving.Served.TheVariants.{Quit}
use Rattle.cmd_usi.specs.declared.talked.TalkEnd.{TalkEnd}
use Rattle.cmd_usi.specs.declared.turn.Talk.{Talk}
use Rattle.cmd_usi.specs.declared.talked.TalkEnd.TheVariants.{Over, TooLong, Read, Write, NoMemory}

-- A session that goes on: what it keeps, the lines of its input, and the replies so far.
pub record TalkView : Type 0 where
  pub session : SessionView
  pub lines : LinesView
  pub replies : List Reply

-- The same of one that is at hand.
abbrev pub talk_view : Talk → TalkView
talk_view talk = record { session = talk.serving; lines = talk.lines; replies = talk.replies.items }

-- Before the first line.
abbrev pub first_talk : TalkView
first_talk = record { session = first_session; lines = first_lines; replies = [] }

-- Why a session ends whose next line isn't given.
abbrev pub line_end : LineEnd → TalkEnd
line_end lines.Fault = Read
line_end lines.TooLong = TooLong
line_end lines.NoMemory = NoMemory

-- A line was given in a turn.
abbrev pub IsGivenIn : TalkView → TalkView → Shown → List ℕ → Type 0
IsGivenIn before after source line = IsLineGiven (place_of before.lines source.told) (place_of after.lines source.told_after) line

-- A line was given and served, and what was replied is kept.
pub record WasServed (before after : TalkView) (source sink : Shown) (stops : Signals) (served : Served) : Type 0 where
  pub line : List ℕ
  pub given : IsGivenIn before after source line
  pub is_served : IsServed before.session line after.session stops sink served
  pub replies : after.replies ≡ before.replies ++ replies_of served

-- Nothing was done.
pub record WasIdle (before after : TalkView) (sink : Shown) (stops : Signals) : Type 0 where
  pub unwritten : IsUntouched sink
  pub unused : AreUnused stops
  pub replies : after.replies ≡ before.replies

-- A line was given, and a failed sink has kept a part of its text.
pub record WasServedInPart (before after : TalkView) (source sink : Shown) (stops : Signals) : Type 0 where
  pub line : List ℕ
  pub given : IsGivenIn before after source line
  pub in_part : IsServedInPart before.session line after.session stops sink
  pub replies : after.replies ≡ before.replies

-- Memory was wanted: nothing was written, and the stops were used for a problem of the next line,
-- or weren't.
pub record WasWanted (before after : TalkView) (source sink : Shown) (stops : Signals) : Type 0 where
  pub unwritten : IsUntouched sink
  pub replies : after.replies ≡ before.replies
  pub stops_used : AreUnused stops ⊎ (line : List ℕ) × IsGivenIn before after source line × WereUsedAt before.session line stops

-- What a turn did, by why the session ends at it, if it does.
abbrev pub IsTurn : TalkView → TalkView → Shown → Shown → Signals → Option TalkEnd → Type 0
IsTurn before after source sink stops None = (served : Served) × (served ≢ Quit) × WasServed before after source sink stops served
IsTurn before after source sink stops (Some Over) =
    (IsOver (place_of before.lines source.told) × WasIdle before after sink stops) ⊎ WasServed before after source sink stops Quit
IsTurn before after source sink stops (Some TooLong) = IsTooLong (place_of before.lines source.told) × WasIdle before after sink stops
IsTurn before after source sink stops (Some Read) = Rose source.faults source.faults_after × WasIdle before after sink stops
IsTurn before after source sink stops (Some Write) = WasServedInPart before after source sink stops
IsTurn before after source sink stops (Some NoMemory) = WasWanted before after source sink stops

-- What the counts of faults tell of a turn.
abbrev pub IsTurnCounted : Shown → Shown → Option TalkEnd → Type 0
IsTurnCounted source sink (Some Read) = NeverFailed sink
IsTurnCounted source sink (Some Write) = NeverFailed source
IsTurnCounted source sink other = NeverFailed source × NeverFailed sink
