-- How a search ended.
use Rattle.std.specs.Prelude.{◌≡◌, ◌⊎◌, ℕ, List, [], ◌∷◌, Some, None, All, IsSome, if◌then◌else◌}
use Rattle.board_core.specs.Board.{Board}
use Rattle.search_gate.specs.Stop.{Signal, one_more}
use Rattle.search_limits.specs.Sizes.{SettingsView}
use Rattle.search_limits.specs.declared.cause.Cause.TheVariants.{Expansions, Room, Height, Stopped, Entries}
use Rattle.visit_log.specs.Visit.{Exchange}
use Rattle.visit_log.specs.Frame.{task_for}
use Rattle.visit_log.specs.Machine.{end_of}
use Rattle.visit_log.specs.Run.{WorkerView}
use Rattle.visit_log.specs.Sound.{IsAnswer}
use Rattle.worker_core.specs.Machine.{is_poll}
use Rattle.lone_port.specs.Lone.{LonePortView}
use Rattle.lone_port.specs.declared.event.Event.{Event}
use Rattle.lone_port.specs.World.{World, world_at_first}
use Rattle.lone_port.specs.Alone.{RunsFrom, HasCause, IsOwnStep, for_one}
use Rattle.lone_port.specs.Filled.{IsWorldWith}
use Rattle.notes.specs.Derivation.{Derivation}
use Rattle.search_pool.specs.declared.end.SearchEnd.{SearchEnd}
use Rattle.search_pool.specs.declared.end.SearchEnd.TheVariants.{Solved, Unknown}

-- What a search with one worker answers, once its table and desk and its worker stand so: the note
-- that is posted; where none is, the cause by the worker's end, and the worker.
abbrev pub IsOutcome : SettingsView → LonePortView → WorkerView → SearchEnd → Type 0
IsOutcome s port worker (Solved note) = port.desk.posted ≡ Some note
IsOutcome s port worker (Unknown cause crew) = (port.desk.posted ≡ None) × (crew ≡ worker ∷ []) × HasCause s worker cause

-- A search with these settings and one worker, which begins from this world, ended so by this
-- schedule: the worker has ended, and this is what table, desk and worker tell then.
pub record IsEndFrom (first : World) (s : SettingsView) (schedule : List Event) (end : SearchEnd) : Type 0 where
  pub log : List Exchange
  pub port : LonePortView
  pub worker : WorkerView
  pub runs : RunsFrom first schedule log port worker
  pub ended : IsSome (end_of worker.state)
  pub outcome : IsOutcome s port worker end

-- So did one of the problem's position, which begins before anything is known.
abbrev pub IsEndBy : Board → SettingsView → List Event → SearchEnd → Type 0
IsEndBy problem s schedule end = IsEndFrom (world_at_first problem (for_one s)) s schedule end

-- This world, of one worker, under its own steps, till that has ended, answers this.
abbrev pub IsAloneFrom : World → SettingsView → SearchEnd → Type 0
IsAloneFrom first s end = (schedule : List Event) × All IsOwnStep schedule × IsEndFrom first s schedule end

-- The world of one worker under its own steps, till it has ended, answers this.
abbrev pub IsAlone : Board → SettingsView → SearchEnd → Type 0
IsAlone problem s end = IsAloneFrom (world_at_first problem (for_one s)) s end

-- So does the world of one worker in which these notes are known.
abbrev pub IsAloneWith : List Derivation → Board → SettingsView → SearchEnd → Type 0
IsAloneWith notes problem s end = (first : World) × IsWorldWith notes problem (for_one s) first × IsAloneFrom first s end

-- How often a stop was polled, once it was at each poll of a log.
abbrev pub polls_after : List Exchange → ℕ → ℕ
polls_after [] polls = polls
polls_after (exchange ∷ exchanges) polls = polls_after exchanges (if is_poll exchange.0 then one_more polls else polls)

-- This world, of one worker, answers this, where a stop, which was polled as often as the worker
-- polls (when, isn't said), may have signalled once: only then was a stop signalled to the worker.
abbrev pub IsUntilFrom : World → SettingsView → Signal → Signal → SearchEnd → Type 0
IsUntilFrom first s before after end =
    (schedule : List Event) × (All IsOwnStep schedule ⊎ (after.raised ≡ one_more before.raised)) × (run : IsEndFrom first s schedule end)
    × (after.polls ≡ polls_after run.log before.polls)

-- So does the world of one worker.
abbrev pub IsAloneUntil : Board → SettingsView → Signal → Signal → SearchEnd → Type 0
IsAloneUntil problem s before after end = IsUntilFrom (world_at_first problem (for_one s)) s before after end

-- So does the world of one worker in which these notes are known.
abbrev pub IsUntilWith : List Derivation → Board → SettingsView → Signal → Signal → SearchEnd → Type 0
IsUntilWith notes problem s before after end = (first : World) × IsWorldWith notes problem (for_one s) first × IsUntilFrom first s before after end

-- The first world answers this, and so many visits were drawn in it.
abbrev pub IsDrawingFrom : World → SettingsView → Signal → Signal → SearchEnd → ℕ → Type 0
IsDrawingFrom first s before after end drawn =
    (schedule : List Event) × (All IsOwnStep schedule ⊎ (after.raised ≡ one_more before.raised)) × (run : IsEndFrom first s schedule end)
    × (after.polls ≡ polls_after run.log before.polls) × (run.port.desk.drawn ≡ drawn)

-- The world of one worker does, and so many visits were drawn in it.
abbrev pub IsAloneDrawing : Board → SettingsView → Signal → Signal → SearchEnd → ℕ → Type 0
IsAloneDrawing problem s before after end drawn = IsDrawingFrom (world_at_first problem (for_one s)) s before after end drawn

-- A note that solved the search answers the problem: it is valid, holds on every path, is about the
-- problem's position and for its attacker.
abbrev pub IsSolution : Board → SearchEnd → Type 0
IsSolution problem (Solved note) = IsAnswer (task_for problem 1) note
IsSolution problem (Unknown cause crew) = Unit {0}

-- A stop is heeded: where it signalled, which it did once, the search ended as stopped, and it was
-- polled no more; where it didn't, the search ended otherwise.
abbrev pub HeedsStop : Signal → Signal → SearchEnd → Type 0
HeedsStop before after (Solved note) = after.raised ≡ before.raised
HeedsStop before after (Unknown (Expansions number) crew) = after.raised ≡ before.raised
HeedsStop before after (Unknown (Room number) crew) = after.raised ≡ before.raised
HeedsStop before after (Unknown (Height number) crew) = after.raised ≡ before.raised
HeedsStop before after (Unknown (Stopped worker) crew) = (after.raised ≡ one_more before.raised) × (after.last ≡ after.polls)
HeedsStop before after (Unknown (Entries number) crew) = ⊥

-- The search was solved.
abbrev pub IsSolved : SearchEnd → Type 0
IsSolved (Solved note) = Unit {0}
IsSolved (Unknown cause crew) = ⊥
