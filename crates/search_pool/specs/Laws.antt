-- What is true of all searches with one worker.
use Rattle.std.specs.Prelude.{◌≡◌, ◌≢◌, List, Some, All}
use Rattle.board_core.specs.Board.{Board}
use Rattle.search_limits.specs.Sizes.{SettingsView}
use Rattle.visit_log.specs.declared.words.WorkEnd.{WorkEnd}
use Rattle.visit_log.specs.declared.words.WorkEnd.TheVariants.{NoMemory}
use Rattle.visit_log.specs.Visit.{Exchange}
use Rattle.visit_log.specs.Machine.{end_of}
use Rattle.visit_log.specs.Run.{WorkerView}
use Rattle.lone_port.specs.Lone.{LonePortView}
use Rattle.lone_port.specs.declared.event.Event.{Event}
use Rattle.lone_port.specs.World.{World, world_at_first}
use Rattle.lone_port.specs.Alone.{RunsFrom, IsOwnStep, for_one}
use Rattle.lone_port.specs.Filled.{IsWorldWith}
use Rattle.notes.specs.Derivation.{Derivation}
use Rattle.search_pool.specs.declared.end.SearchEnd.{SearchEnd}
use Rattle.search_pool.specs.End.{IsAlone, IsAloneWith}

-- The settings are the same for one worker: as many visits, as much room, as many rows, and the
-- table lends in both or in neither. (It makes no use of the numbers of workers and shards.)
pub record AreSameAlone (s other : SettingsView) : Type 0 where
  pub expansions : s.expansions ≡ other.expansions
  pub room : s.room ≡ other.room
  pub rows : s.rows ≡ other.rows
  pub lends : s.lends ≡ other.lends

-- Where a search with one worker has come to: what it asked and was told, its table with its desk,
-- and its worker.
pub record AloneState : Type 0 where
  pub log : List Exchange
  pub port : LonePortView
  pub worker : WorkerView

-- A search with one worker, which begins from this world, has ended there under its own steps, and
-- not for want of memory.
pub record HasRunFrom (first : World) (at : AloneState) : Type 0 where
  pub schedule : List Event
  pub own : All IsOwnStep schedule
  pub runs : RunsFrom first schedule at.log at.port at.worker
  pub end : WorkEnd
  pub ended : end_of at.worker.state ≡ Some end
  pub not_starved : end ≢ NoMemory

-- So has one that begins before anything is known.
abbrev pub HasRun : Board → SettingsView → AloneState → Type 0
HasRun problem s at = HasRunFrom (world_at_first problem (for_one s)) at

-- A law: a search with one worker goes one way. Two of one problem with the same settings, neither
-- of which ended for want of memory, asked and were told the same, and their tables, their desks
-- and their workers stand the same at the end.
abbrev pub AloneGoesOneWay : Type 0
AloneGoesOneWay = (problem : Board) (s r : SettingsView) (end other : AloneState) → AreSameAlone s r
    → HasRun problem s end → HasRun problem r other → end ≡ other

-- A law: so it has one answer: the same note; or the same cause, and the worker as it stands. (That
-- memory was wanting is no answer.)
abbrev pub AloneHasOneAnswer : Type 0
AloneHasOneAnswer = (problem : Board) (s r : SettingsView) (end other : SearchEnd) → AreSameAlone s r
    → IsAlone problem s end → IsAlone problem r other → end ≡ other

-- A law: a search with one worker that begins from notes that are known goes one way, too: two from
-- the same notes, in the same order, begin from one world, ask and are told the same, and stand the
-- same at the end.
abbrev pub FilledGoesOneWay : Type 0
FilledGoesOneWay = (notes : List Derivation) (problem : Board) (s r : SettingsView) (first its_first : World) (end other : AloneState) → AreSameAlone s r
    → IsWorldWith notes problem (for_one s) first → IsWorldWith notes problem (for_one r) its_first → HasRunFrom first end → HasRunFrom its_first other
    → (first ≡ its_first) × (end ≡ other)

-- A law: so it has one answer.
abbrev pub FilledHasOneAnswer : Type 0
FilledHasOneAnswer = (notes : List Derivation) (problem : Board) (s r : SettingsView) (end other : SearchEnd) → AreSameAlone s r
    → IsAloneWith notes problem s end → IsAloneWith notes problem r other → end ≡ other
