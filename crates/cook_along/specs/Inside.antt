-- What the private functions of this crate say of one another; no public clause cites these.
use Rattle.std.specs.Prelude.{◌≡◌, ◌*◌, ◌++◌, ℕ, List, drop}
use Rattle.board_core.specs.declared.moves.Move.{Move}
use Rattle.board_core.specs.Board.{Board}
use Rattle.kif_moves.specs.Playing.{AreInTurn}
use Rattle.search_gate.specs.Stop.{Signal}
use Rattle.search_limits.specs.Sizes.{SettingsView}
use Rattle.visit_log.specs.Run.{WorkerView}
use Rattle.cook_search.specs.Found.{IsReportFound}
use Rattle.cook_line.specs.declared.stage.Stage.{Stage}
use Rattle.cook_line.specs.Stages.{IsStageOf}
use Rattle.cook_line.specs.Turns.{position_at}

-- The position is that at a turn along the line, and from it the rest of the moves are checks and
-- evasions in turn.
pub record IsAtTurn (p : Board) (moves : List Move) (turn : ℕ) (b : Board) : Type 0 where
  pub is_position : b ≡ position_at p moves turn
  pub attacks : b.side ≡ p.side
  pub in_turn : AreInTurn p.side b (drop (2 * turn) moves)

-- A stage with this check was found on a position, and what it tells of it is true; the workers of
-- the searches that gave up stand behind others.
pub record IsStageFound (b : Board) (check : Move) (s : SettingsView) (told told_after : List Signal) (crews crews_after : List (List WorkerView)) (stage : Stage) : Type 0 where
  pub of_check : stage.check ≡ check
  pub of_position : IsStageOf b stage
  pub own : List (List WorkerView)
  pub found : IsReportFound b s told told_after stage.report own
  pub brought : crews_after ≡ crews ++ own
