-- A table and a desk, and a world, in which notes are known before anything happens.
use Rattle.std.specs.Prelude.{◌≡◌, List}
use Rattle.board_core.specs.Board.{Board}
use Rattle.search_limits.specs.Sizes.{SettingsView}
use Rattle.notes.specs.Derivation.{Derivation}
use Rattle.table_shard.specs.Known.{TakesNotes}
use Rattle.unit_desk.specs.Known.{IsFirstSaid}
use Rattle.lone_port.specs.Lone.{LonePortView}
use Rattle.lone_port.specs.World.{World, world_at_first}

-- The table and the desk once notes are known: the table has taken them in, one after the other,
-- and what the first says that reaches the problem is posted. Nothing is drawn or claimed for it,
-- and nothing else changes.
pub record IsFilled (notes : List Derivation) (before after : LonePortView) : Type 0 where
  pub takes : TakesNotes before.rows notes after.rows
  pub posted : IsFirstSaid before.desk.position notes after.desk.posted
  pub others : after ≡ record before { rows = after.rows; desk = record before.desk { posted = after.desk.posted } }

-- The world of a problem and settings in which these notes are known, before anything happens.
pub record IsWorldWith (notes : List Derivation) (problem : Board) (s : SettingsView) (world : World) : Type 0 where
  pub filled : IsFilled notes (world_at_first problem s).port world.port
  pub others : world ≡ record (world_at_first problem s) { port = world.port }
