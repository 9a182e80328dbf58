-- A session over an input.
use Rattle.std.specs.Prelude.{◌≡◌, ◌⊎◌, ◌≤◌, ◌++◌, ℕ, List, Option, Some, ⊤, length}
use Rattle.search_gate.specs.Stop.{Signal}
use Rattle.tsume_io.specs.Faults.{Rose}
use Rattle.tsume_io.specs.Sink.{GrewBy}
use Rattle.one_run.specs.Outside.{Shown, NeverFailed}
use Rattle.one_run.specs.Stops.{Signals}
use Rattle.input_lines.specs.Lines.{HasNoFeed, Place, IsLineGiven, AreLinesGiven, IsOver, IsTooLong, beginning}
use Rattle.input_lines.specs.declared.lines.TheConstants.{MOST_LINE_BYTES, MOST_INPUT_BYTES}
use Rattle.app_texts.specs.declared.answer.Solution.TheVariants.{Mate, NoMate, Unknown}
use Rattle.app_texts.specs.declared.answer.Solution.{Solution}
use Rattle.board_core.specs.Board.{Board}
use Rattle.problem_answers.specs.Answer.{IsMateShown, IsNoMateShown}
use Rattle.usi_session.specs.Sessions.{SessionView, ActView, Ends, IsAct, SessionFrom, first_session}
use Rattle.usi_session.specs.Laws.{GoesOn}
use Rattle.usi_serve.specs.Served.{AreDone, IsServedInPart, WereUsedAt}
use Rattle.usi_serve.specs.declared.reply.Reply.{Reply}
use Rattle.cmd_usi.specs.declared.talked.TalkEnd.{TalkEnd}
use Rattle.cmd_usi.specs.declared.talked.TalkEnd.TheVariants.{Over, TooLong, Read, Write, NoMemory}
use Rattle.cmd_usi.specs.declared.talked.Talked.{Talked}

-- 1. HOW FAR A SESSION HAS COME.

-- What is outside a session, at its beginning and where it has come so far: what the source told,
-- and where the reading of its lines stands; what the sink has kept; and what the stops tell.
pub record Course : Type 0 where
  pub told : Option (List ℕ)
  pub place : Place
  pub kept : Option (List ℕ)
  pub kept_after : Option (List ℕ)
  pub stops : Signals

-- A session has come so far: the lines at the front of the input were given one after the other;
-- it did its acts at them, from its beginning, and goes on; these were done one after the other,
-- and their texts were written. So each problem that was to be solved has one reply, in order.
pub record HasCome (course : Course) (session : SessionView) (replies : List Reply) : Type 0 where
  pub lines : List (List ℕ)
  pub given : AreLinesGiven (beginning course.told) lines course.place
  pub acts : List ActView
  pub does : SessionFrom first_session lines acts session
  pub goes_on : GoesOn acts
  pub text : List ℕ
  pub done : AreDone acts course.stops.before text replies course.stops.after
  pub grew : GrewBy course.kept course.kept_after text

-- 2. HOW IT ENDS.

-- The next line ends the session.
pub record Quits (place : Place) (session : SessionView) : Type 0 where
  pub line : List ℕ
  pub next : Place
  pub given : IsLineGiven place next line
  pub after : SessionView
  pub ends : IsAct session line Ends after

-- The session came so far, and was over then: the input was, or the next line ended it.
pub record WasOver (source sink : Shown) (stops : Signals) (replies : List Reply) : Type 0 where
  pub place : Place
  pub session : SessionView
  pub has_come : HasCome (record { told = source.told; place = place; kept = sink.told; kept_after = sink.told_after; stops = stops }) session replies
  pub over : IsOver place ⊎ Quits place session

-- The session came so far, and the next line or the input was too long.
pub record WasTooLong (source sink : Shown) (stops : Signals) (replies : List Reply) : Type 0 where
  pub place : Place
  pub session : SessionView
  pub has_come : HasCome (record { told = source.told; place = place; kept = sink.told; kept_after = sink.told_after; stops = stops }) session replies
  pub too_long : IsTooLong place

-- The session came so far, and then the source failed.
pub record WasUnread (source sink : Shown) (stops : Signals) (replies : List Reply) : Type 0 where
  pub place : Place
  pub session : SessionView
  pub has_come : HasCome (record { told = source.told; place = place; kept = sink.told; kept_after = sink.told_after; stops = stops }) session replies
  pub rose : Rose source.faults source.faults_after

-- The session came so far, what it does at the next line was done, and a failed sink has kept a
-- part of that line's text.
pub record WasUnwritten (source sink : Shown) (stops : Signals) (replies : List Reply) : Type 0 where
  pub place : Place
  pub session : SessionView
  pub kept : Option (List ℕ)
  pub signals : List Signal
  pub has_come : HasCome (record { told = source.told; place = place; kept = sink.told; kept_after = kept; stops = record { before = stops.before; after = signals } }) session replies
  pub line : List ℕ
  pub next : Place
  pub given : IsLineGiven place next line
  pub after : SessionView
  pub in_part : IsServedInPart session line after (record { before = signals; after = stops.after })
      (record { told = kept; told_after = sink.told_after; faults = sink.faults; faults_after = sink.faults_after })

-- The stops were used for a problem at the next line.
pub record WereUsedNext (place : Place) (session : SessionView) (stops : Signals) : Type 0 where
  pub line : List ℕ
  pub next : Place
  pub given : IsLineGiven place next line
  pub used : WereUsedAt session line stops

-- The session came so far, and then memory was wanted; nothing more was written. The stops were
-- used for a problem at the next line, or weren't.
pub record WasUnserved (source sink : Shown) (stops : Signals) (replies : List Reply) : Type 0 where
  pub place : Place
  pub session : SessionView
  pub signals : List Signal
  pub has_come : HasCome (record { told = source.told; place = place; kept = sink.told; kept_after = sink.told_after; stops = record { before = stops.before; after = signals } }) session replies
  pub stops_used : (stops.after ≡ signals) ⊎ WereUsedNext place session (record { before = signals; after = stops.after })

-- How a session ended, with these replies.
abbrev pub EndedSo : TalkEnd → Shown → Shown → Signals → List Reply → Type 0
EndedSo Over source sink stops replies = WasOver source sink stops replies
EndedSo TooLong source sink stops replies = WasTooLong source sink stops replies
EndedSo Read source sink stops replies = WasUnread source sink stops replies
EndedSo Write source sink stops replies = WasUnwritten source sink stops replies
EndedSo NoMemory source sink stops replies = WasUnserved source sink stops replies

-- What the counts of faults tell: the source's is as it was unless reading failed, the sink's
-- unless writing did.
abbrev pub IsTalkCounted : Shown → Shown → TalkEnd → Type 0
IsTalkCounted source sink Over = NeverFailed source × NeverFailed sink
IsTalkCounted source sink TooLong = NeverFailed source × NeverFailed sink
IsTalkCounted source sink Read = NeverFailed sink
IsTalkCounted source sink Write = NeverFailed source
IsTalkCounted source sink NoMemory = NeverFailed source × NeverFailed sink

-- A session ended so.
pub record IsTalked (source sink : Shown) (stops : Signals) (talked : Talked) : Type 0 where
  pub ended : EndedSo talked.end source sink stops talked.replies.items
  pub counted : IsTalkCounted source sink talked.end

-- 3. IN PLAIN WORDS.

-- A solution shows of a problem what it says: a mate that it is one, none that it is none, each by
-- a certificate that is valid for it, that the checker accepts, and that can be read.
abbrev pub ShowsOf : Board → Solution → Type 0
ShowsOf problem (Mate c moves) = IsMateShown problem c moves
ShowsOf problem (NoMate c) = IsNoMateShown problem c
ShowsOf problem (Unknown cause crew) = ⊤

-- A reply shows what it says of its problem.
abbrev pub Shows : Reply → Type 0
Shows reply = ShowsOf reply.asked.problem.position reply.solution

-- The source tells its bytes, and they aren't too long: neither all of them, nor any that stand
-- together without a line feed.
pub record IsFitInput (told : Option (List ℕ)) : Type 0 where
  pub input : List ℕ
  pub is_told : told ≡ Some input
  pub within : length input ≤ MOST_INPUT_BYTES
  pub lines : (before line behind : List ℕ) → input ≡ before ++ line ++ behind → HasNoFeed line → length line ≤ MOST_LINE_BYTES
