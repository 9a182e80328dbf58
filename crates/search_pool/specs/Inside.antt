-- What the private functions of this crate say of one another; no public clause cites these.
use Rattle.std.specs.Prelude.{◌≡◌, ◌⊎◌, Option, Bool, true, false, List, Some, All, Contains, IsSome}
use Rattle.board_core.specs.Board.{Board}
use Rattle.board_core.specs.declared.keys.Key.{Key}
use Rattle.notes.specs.declared.words.Draw.TheVariants.{Done, Spent as AllDrawn}
use Rattle.notes.specs.declared.words.RoomAnswer.TheVariants.{NoRoom as Full}
use Rattle.notes.specs.declared.note.TheConstants.{HEIGHT_LIMIT}
use Rattle.search_limits.specs.declared.cause.Cause.{Cause}
use Rattle.search_limits.specs.declared.cause.Cause.TheVariants.{Expansions, Room, Height, Stopped as StoppedFirst, Entries}
use Rattle.visit_log.specs.declared.words.WorkEnd.{WorkEnd}
use Rattle.visit_log.specs.declared.words.WorkEnd.TheVariants.{Posted, Spent, NoRoom, TooHigh, Stopped}
use Rattle.visit_log.specs.declared.parts.Stage.TheVariants.{Winding}
use Rattle.search_gate.specs.Stop.{Signal, one_more, polled}
use Rattle.search_limits.specs.Sizes.{SettingsView}
use Rattle.unit_desk.specs.Desk.{DeskView}
use Rattle.visit_log.specs.declared.words.Request.{Request}
use Rattle.visit_log.specs.declared.words.Request.TheVariants.{Poll}
use Rattle.visit_log.specs.declared.words.Reply.{Reply}
use Rattle.visit_log.specs.declared.words.Reply.TheVariants.{Poll as Polled, Draw as Drew, Claim as Claimed, Post as PostedIt}
use Rattle.visit_log.specs.Frame.{task_for}
use Rattle.visit_log.specs.Visit.{Exchange}
use Rattle.visit_log.specs.Run.{WorkerView, Leads}
use Rattle.lone_port.specs.Lone.{LonePortView, Turns, worker_at_first}
use Rattle.lone_port.specs.World.{World, Plays}
use Rattle.lone_port.specs.declared.event.Event.{Event}
use Rattle.lone_port.specs.Alone.{IsOwn, IsOwnStep, told_to_one, world_of}
use Rattle.search_pool.specs.End.{polls_after}

-- From one state to the next, of a table and a desk that are watched: a poll asks the stop, answers
-- what that says and changes nothing else; each other request is answered by the table and the
-- desk, and the stop isn't asked.
abbrev pub Watches : LonePortView → Signal → List Key → Request → Option Reply → LonePortView → Signal → Type 0
Watches before signal path Poll (Some (Polled answer)) after later = (after ≡ before) × (later ≡ polled signal answer)
Watches before signal path request answer after later = Turns before path request answer after × (later ≡ signal)

-- Whether the answer says that all visits were drawn; that all room was claimed; that a note is
-- posted, now or before; that the worker is to stop.
abbrev pub says_spent : Exchange → Bool
says_spent (request, Some (Drew AllDrawn)) = true
says_spent exchange = false

-- That all room was claimed.
abbrev pub says_full : Exchange → Bool
says_full (request, Some (Claimed Full)) = true
says_full exchange = false

-- That a note is posted.
abbrev pub says_posted : Exchange → Bool
says_posted (request, Some (Drew Done)) = true
says_posted (request, Some PostedIt) = true
says_posted exchange = false

-- That the worker is to stop.
abbrev pub says_stop : Exchange → Bool
says_stop (request, Some (Polled true)) = true
says_stop exchange = false

-- Something of the kind was said.
abbrev pub WasSaid : (Exchange → Bool) → List Exchange → Type 0
WasSaid says log = (exchange : Exchange) × Contains log exchange × (says exchange ≡ true)

-- The desk after a log: what was said of it still holds.
pub record IsToldDesk (log : List Exchange) (desk : DeskView) : Type 0 where
  pub spent : WasSaid says_spent log → desk.drawn ≡ desk.expansions
  pub full : WasSaid says_full log → desk.claimed ≡ desk.room
  pub posted : WasSaid says_posted log → IsSome desk.posted

-- What was said behind which the worker winds up: that it is to stop, or that a note is posted, as
-- there is none without that, but for the one that the first desk has; which stays.
pub record IsWindingUp (first : LonePortView) (log : List Exchange) (port : LonePortView) (worker : WorkerView) : Type 0 where
  pub stopped : WasSaid says_stop log → worker.state.stage ≡ Winding Stopped
  pub posted : WasSaid says_posted log → worker.state.stage ≡ Winding Posted
  pub is_said : IsSome port.desk.posted → WasSaid says_posted log ⊎ IsSome first.desk.posted
  pub still : IsSome first.desk.posted → port.desk.posted ≡ first.desk.posted

-- A stop signalled nothing, and nothing of it was said; or it signalled once, that was said, and it
-- was polled no more.
abbrev pub IsQuiet : Signal → Signal → List Event → List Exchange → Type 0
IsQuiet before after schedule log =
    (All IsOwnStep schedule × (WasSaid says_stop log → ⊥) × (after.raised ≡ before.raised))
    ⊎ (WasSaid says_stop log × (after.raised ≡ one_more before.raised) × (after.last ≡ after.polls))

-- A search with one worker may begin so: with the visits and the room of the settings, of which
-- none is drawn or claimed.
pub record MayBegin (s : SettingsView) (port : LonePortView) : Type 0 where
  pub expansions : port.desk.expansions ≡ s.expansions
  pub room : port.desk.room ≡ s.room
  pub drawn : port.desk.drawn ≡ 0
  pub claimed : port.desk.claimed ≡ 0

-- The world of one worker in the search of the problem over this table and desk, before anything
-- happens.
abbrev pub world_over : LonePortView → Board → World
world_over first problem = world_of first (worker_at_first problem 1) false

-- A search with one worker goes on so: the world of one worker comes by a schedule to where table,
-- desk and worker stand; no stop waits to be told; the worker stands by the log, and winds up where
-- it was told to; what was said of the desk holds, whose visits and room are the settings'; the
-- stop was polled as often as it polls, and not armed; and unless the stop signalled, no stop was
-- signalled to the worker.
pub record IsUnderWay (first : LonePortView) (problem : Board) (s : SettingsView) (before after : Signal) (port : LonePortView) (worker : WorkerView) : Type 0 where
  pub schedule : List Event
  pub log : List Exchange
  pub own : All IsOwn schedule
  pub plays : Plays (world_over first problem) schedule (told_to_one log) (world_of port worker false)
  pub leads : Leads (task_for problem 1) log worker.state
  pub task : worker.task ≡ task_for problem 1
  pub idle : worker.waiting ≡ false
  pub desk : IsToldDesk log port.desk
  pub winding : IsWindingUp first log port worker
  pub expansions : port.desk.expansions ≡ s.expansions
  pub room : port.desk.room ≡ s.room
  pub quiet : IsQuiet before after schedule log
  pub polls : after.polls ≡ polls_after log before.polls
  pub armed : after.armed ≡ before.armed
  pub arms : after.arms ≡ before.arms
  pub early : after.early ≡ before.early

-- So with a table and a desk that are watched: those of the world are opened anew for each turn,
-- and these never.
abbrev pub IsWatched : LonePortView → Board → SettingsView → Signal → Signal → LonePortView → WorkerView → Type 0
IsWatched first problem s before after port worker =
    (its_going : Bool) × (its_stops : Bool) × IsUnderWay first problem s before after (record port { going = its_going; stops = its_stops }) worker

-- The worker had all visits and all room that the desk gave.
abbrev pub HadAll : LonePortView → WorkerView → Type 0
HadAll port worker = (port.desk.drawn ≡ worker.state.visits) × (port.desk.claimed ≡ worker.state.claims)

-- The cause names the worker's end, and the setting.
abbrev pub IsCauseOf : SettingsView → WorkEnd → Cause → Type 0
IsCauseOf s end (Expansions number) = (number ≡ s.expansions) × (end ≡ Spent)
IsCauseOf s end (Room number) = (number ≡ s.room) × (end ≡ NoRoom)
IsCauseOf s end (Height number) = (number ≡ HEIGHT_LIMIT) × (end ≡ TooHigh)
IsCauseOf s end (StoppedFirst number) = (number ≡ 1) × (end ≡ Stopped)
IsCauseOf s end (Entries number) = ⊥
