use Rattle.std.proofs.Common.{◌≡◌, ◌-◌, take, drop}
use Rattle.board_core.specs.Key.{packed_cells}
use Rattle.board_core.specs.Code.{cells_of}
use Rattle.board_core.proofs.pack.word.Given as goal

abbrev pub invariant-loop-step : goal.invariant-loop-step
invariant-loop-step l = l.word ≡ packed_cells (take l.step (drop (l.to - l.step) (cells_of l.codes)))
